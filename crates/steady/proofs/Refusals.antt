-- What a turn that no refusal 4 to 8 forbids has: a rack that is not finished, and an answer that may be taken.
use mathlib.Core.Path.{◌≡◌, refl}
use mathlib.Core.Logic.{◌⊎◌, inl, inr}
use mathlib.Core.Bool.{Bool, true, false, cond, not, ◌&&◌, ◌||◌}
use Prim.Native.Nat.{ℕ, suc, ◌≤◌, ◌<◌}
use native.Mathlib.Omega.{arith}
use borrow.Author.Tests.{ltb-false, leb-false, eqb-true, eq-eqb, not-false}
use lib.Dec.{eqb, leb}
use Rattle.laws.proofs.Cases.{either, and_false, or_false, clash_bool}
use Rattle.model.specs.declared.Size.{Size}
use Rattle.model.specs.declared.Rack.{Rack}
use Rattle.model.specs.Record.{is_empty}
use Rattle.model.specs.Table.{Tables, offers, read_cell, undecided, decision_at}
use Rattle.model.specs.Turn.{unnamed, finished, misnamed, not_offered, decided_else, overfull, refusal_of}

-- a refusal that was passed over
pub passed : (b : Bool) (number rest : ℕ) → cond b (suc number) rest ≡ 0 → (b ≡ false) × (rest ≡ 0)
passed true number rest e = absurd (omega arith)
passed false number rest e = (refl, e)

module _ (s : Size) (t : Tables) (rack : ℕ) (r : Rack) (lane source : ℕ) where
  pub record Allowed : Type 0 where
    pub current : finished s r ≡ false
    pub named : misnamed s r lane source ≡ false
    pub offer : not_offered s r t.cells lane source ≡ false
    pub free : decided_else s r t.decisions lane source ≡ false
    pub short : overfull s t rack r ≡ false

  pub allowed : refusal_of s t rack r lane source ≡ 0 → Allowed
  unfolding refusal_of
  allowed e =
      let not_finished = passed (finished s r) 3 _ e in
      let well_named = passed (misnamed s r lane source) 4 _ not_finished.1 in
      let was_offered = passed (not_offered s r t.cells lane source) 5 _ well_named.1 in
      let not_else = passed (decided_else s r t.decisions lane source) 6 _ was_offered.1 in
      let not_overfull = passed (overfull s t rack r) 7 _ not_else.1 in
      record { current = not_finished.0; named = well_named.0; offer = was_offered.0; free = not_else.0; short = not_overfull.0 }

  module _ (a : Allowed) where
    pub round_left : r.round ≤ s.rounds
    unfolding finished
    round_left = ltb-false s.rounds r.round a.current

    module _ (answer : r.step ≡ 1) where
      is_answer_is : eqb r.step 1 ≡ true
      is_answer_is = eq-eqb r.step 1 answer

      both_named : (leb s.lanes lane ≡ false) × (leb s.racks source ≡ false)
      unfolding misnamed
      both_named =
          let h : cond (eqb r.step 1) (leb s.lanes lane || leb s.racks source) (not (eqb lane unnamed) || not (eqb source unnamed)) ≡ false = a.named in
          or_false (leb s.lanes lane) (leb s.racks source) (rw is_answer_is at h)

      pub lane_named_is : lane < s.lanes
      lane_named_is = leb-false s.lanes lane both_named.0

      pub source_named_is : source < s.racks
      source_named_is = leb-false s.racks source both_named.1

      pub has_offer : is_empty (read_cell s t.cells offers r.round lane source) ≡ false
      unfolding not_offered
      has_offer =
          either (and_false (eqb r.step 1) (is_empty (read_cell s t.cells offers r.round lane source)) a.offer)
          (λ e. clash_bool is_answer_is e)
          (λ e. e)

      pub lane_free : (decision_at s t.decisions r.round lane ≡ undecided) ⊎ (decision_at s t.decisions r.round lane ≡ source)
      unfolding decided_else
      lane_free =
          let decision = decision_at s t.decisions r.round lane in
          either (and_false (eqb r.step 1) (not (eqb decision undecided) && not (eqb decision source)) a.free)
          (λ e. clash_bool is_answer_is e)
          (λ e. either (and_false (not (eqb decision undecided)) (not (eqb decision source)) e)
          (λ f. inl (eqb-true decision undecided (not-false (eqb decision undecided) f)))
          (λ f. inr (eqb-true decision source (not-false (eqb decision source) f))))
