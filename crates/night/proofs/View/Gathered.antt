-- What a rack has gathered shows the list of what it read: nothing, or one cell more.
use mathlib.Core.Path.{◌≡◌, sym, ap, ◌∙◌}
use mathlib.Core.Logic.{◌≢◌}
use mathlib.Core.List.{List, [], ◌∷◌, ◌++◌}
use mathlib.Core.Option.{Option, none}
use Prim.Native.Nat.{ℕ, ◌≤◌, ◌<◌}
use native.Mathlib.Omega.{arith}
use lib.ListN.{length, get_or, set, get_or-eq_default, get_or-append}
use lib.Seq.{get_or-append_seam, get_or-set_same, get_or-set_other}
use Rattle.laws.proofs.Cases.{either, eq_or_ne, lt_or_ge}
use Rattle.model.specs.declared.Cell.{Cell}
use Rattle.model.specs.Record.{no_cell}
use Rattle.protocol.specs.AdoptCommit.{Marked}
use Rattle.protocol.specs.Object.{Object, taken}
use Rattle.protocol.specs.FirstEdition.{first_edition}
use Rattle.protocol.proofs.Lists.{length_snoc}
use Rattle.protocol.proofs.Object.{Consistent}
use Rattle.protocol.proofs.Ranges.{firsts_read_is, seconds_read_is}

pub nothing : {X : Type 0} (list : List (Option X)) → length list ≡ 0 → (i : ℕ) → get_or list i none ≡ none
nothing list e i = get_or-eq_default list none {n = i} (omega arith)

module _ {X : Type 0} (list : List (Option X)) (x : Option X) where
  earlier : (i : ℕ) → i ≢ length list → get_or (list ++ (x ∷ [])) i none ≡ get_or list i none
  earlier i d =
      either (lt_or_ge i (length list))
      (λ (l : i < length list). get_or-append list (x ∷ []) none i l)
      (λ (g : length list ≤ i).
      let long = length_snoc list x in
      get_or-eq_default (list ++ (x ∷ [])) none {n = i} (omega (arith, d)) ∙ sym (get_or-eq_default list none {n = i} g))

  pub one_more_shown : (show : Option X → Cell) (cells : List Cell) (q : ℕ) (c : Cell) → q ≡ length list → q < length cells → c ≡ show x
      → ((i : ℕ) → i < 8 → get_or cells i no_cell ≡ show (get_or list i none))
      → (i : ℕ) → i < 8 → get_or (set cells q c) i no_cell ≡ show (get_or (list ++ (x ∷ [])) i none)
  one_more_shown show cells q c at room e shown i h =
      either (eq_or_ne i q)
      (λ (f : i ≡ q).
      rw (f, get_or-set_same cells q c no_cell room, e, at, get_or-append_seam list x [] none))
      (λ (d : i ≢ q).
      get_or-set_other cells q i c no_cell d ∙ shown i h ∙ ap show (sym (earlier i (λ g. d (g ∙ sym at)))))

-- who has taken no step in an object has gathered nothing there
module _ (n : ℕ) (o : Object Marked) (h : Consistent first_edition.make n o) (q : ℕ) (e : taken o q ≡ 0) where
  pub no_firsts : (i : ℕ) → get_or (o.firsts q).gathered i none ≡ none
  no_firsts = nothing (o.firsts q).gathered (let f = firsts_read_is first_edition.make n o h q in omega arith)

  pub no_seconds : (i : ℕ) → get_or (o.seconds q).gathered i none ≡ none
  no_seconds = nothing (o.seconds q).gathered (let f = seconds_read_is first_edition.make n o h q in omega arith)
