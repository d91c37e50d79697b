-- Cue records added one after the other, to the first bad one.
use mathlib.Core.Path.{◌≡◌, refl, sym, ap, ◌∙◌}
use mathlib.Core.List.{List, ◌∷◌}
use Prim.Native.Nat.{ℕ, ◌+◌, ◌-◌, ◌≤◌, ◌<◌}
use native.Mathlib.Omega.{arith}
use native.Mathlib.Numerals.{add-one}
use borrow.Author.Tests.{eq-eqb, ne_eqb}
use lib.ListN.{length, take, drop}
use lib.Seq.{length-sets}
use Rattle.laws.proofs.Cases.{either, bool}
use Rattle.model.specs.Cues.{Listed, lists_fit, bad_cue, listed, add_cue}
use Rattle.model.specs.Night.{piece_at, pieces}
use Rattle.model.specs.Sheet.{Loaded, load_cues}
use Rattle.cues.proofs.Lists.{lists_stay}
use Rattle.turns.specs.Walk.{place_behind}
use Rattle.turns.proofs.Pieces.{pieces_none}
use Rattle.turns.proofs.Ends.{end_at, pieces_next}

-- a record added or refused leaves the lists' length
pub lists_length_stays : (n k : ℕ) (lists cue : List ℕ) → length (add_cue n k lists cue).lists ≡ length lists
unfolding add_cue listed
lists_length_stays n k lists cue =
    either (bool (lists_fit n k lists))
    (λ e. either (bool (bad_cue n k lists cue)) (λ f. rw (e, f)) (λ f. rw (e, f) (simp length-sets)))
    (λ e. rw e)

module _ (n k : ℕ) where
  -- the records before a place added, and those from there on to add
  pub record Adding (bytes lists₀ lists : List ℕ) (index at : ℕ) : Type 0 where
    pub same : length lists ≡ length lists₀
    pub few : index ≤ at
    pub left : load_cues n k lists index (pieces (drop at bytes)) ≡ load_cues n k lists₀ 0 (pieces bytes)

  pub adding_first : (bytes lists₀ : List ℕ) → Adding bytes lists₀ lists₀ 0 0
  adding_first bytes lists₀ = record { same = refl; few = omega arith; left = refl }

  module _ (bytes lists₀ lists : List ℕ) (index at : ℕ) (g : Adding bytes lists₀ lists index at) where
    pub adding_last : length bytes ≤ at → ◌≡◌ {A = Loaded} (record { number = 0; index = index; lists = lists }) (load_cues n k lists₀ 0 (pieces bytes))
    unfolding load_cues
    adding_last h = rw (pieces_none bytes at h) at g.left

    module _ (end : ℕ) (h : at < length bytes) (e : end ≡ place_behind at (piece_at bytes at)) (a : Listed)
        (f : a ≡ add_cue n k lists (take (end - at) (drop at bytes))) where
      pub adding_same : length a.lists ≡ length lists₀
      adding_same = rw f (lists_length_stays n k lists (take (end - at) (drop at bytes)) ∙ g.same)

      -- what is left, by its first record
      left_next : load_cues n k lists index (take (end - at) (drop at bytes) ∷ pieces (drop end bytes)) ≡ load_cues n k lists₀ 0 (pieces bytes)
      left_next = rw (pieces_next bytes at end h e) at g.left

      pub adding_next : a.number ≡ 0 → Adding bytes lists₀ a.lists (index + 1) end
      unfolding load_cues
      adding_next z =
          record {
            same = adding_same;
            few = omega (arith, g.few, (end_at bytes at end h e).later);
            left = rw (add-one, f) (rw (eq-eqb _ 0 (sym (ap (λ (x : Listed). x.number) f) ∙ z)) at left_next);
          }

      pub adding_bad : (a.number ≡ 0 → ⊥)
          → ◌≡◌ {A = Loaded} (record { number = a.number; index = index; lists = a.lists }) (load_cues n k lists₀ 0 (pieces bytes))
      unfolding load_cues
      adding_bad d =
          let cue = take (end - at) (drop at bytes) in
          let number = ap (λ (x : Listed). x.number) f in
          let refused : (add_cue n k lists cue).number ≡ 0 → ⊥ = λ z. d (number ∙ z) in
          rw (f, lists_stay n k lists cue refused) (rw (ne_eqb _ 0 refused) at left_next)
