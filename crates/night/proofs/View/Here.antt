-- What a rack in a block sees of the history: the cells of the lane at work, what it has gathered, its own value, and what it proposes there.
use mathlib.Core.Path.{◌≡◌, ap, ◌∙◌}
use mathlib.Core.Logic.{◌≢◌}
use mathlib.Core.Bool.{true, cond}
use mathlib.Core.Option.{none, some}
use Prim.Native.Nat.{ℕ, suc, ◌<◌}
use native.Mathlib.Omega.{arith}
use borrow.Author.Tests.{eq-eqb, ne_eqb}
use lib.Dec.{eqb}
use lib.ListN.{get_or}
use Rattle.laws.proofs.Cases.{either, eq_or_ne}
use Rattle.model.specs.declared.Size.{Size}
use Rattle.model.specs.declared.Value.{Value}
use Rattle.model.specs.declared.Cell.{Cell}
use Rattle.model.specs.declared.Rack as card
use Rattle.model.specs.Table.{Tables, offers, first_cells, second_cells, read_cell, cell_now, decision_at, held_at, first_at, second_at}
use Rattle.model.specs.Kind.{lane_at}
use Rattle.model.specs.Step.{own, proposal}
use Rattle.model.proofs.Order.{lane_below}
use Rattle.steady.proofs.Kept.{Ready}
use Rattle.protocol.specs.AdoptCommit.{Marked}
use Rattle.protocol.specs.FirstEdition.{first_edition}
use Rattle.protocol.specs.History as protocol
use Rattle.protocol.specs.History.{History, has_answer, offer_of}
use Rattle.protocol.proofs.Invariant.{past_now, Invariant}
use Rattle.night.specs.View.{first_of, second_of, RackView}
use Rattle.night.proofs.View.Standing.{Visiting, lane, object, lane_is}
use Rattle.night.proofs.View.Tables.{TablesView}

module _ (s : Size) (t : Tables) (h : History Marked) (q : ℕ) (r : card.Rack) (ready : Ready s t q r)
    (inv : Invariant first_edition s.racks s.lanes h) (tables : TablesView s t h) (v : RackView s h q r) (w : Visiting s h q r) where
  abbrev r₀ : ℕ
  r₀ = (h.racks q).finished

  abbrev first : ℕ
  first = (h.racks q).first r₀

  abbrev c₀ : ℕ
  c₀ = lane s h q r w

  pub round_there : r₀ < s.rounds
  round_there = let e = v.round in let g = ready.current in omega arith

  has_answer_is : has_answer (h.racks q) r₀ ≡ true
  has_answer_is = rw w.is (past_now r₀)

  pub first_there : first < s.lanes
  first_there = ((inv.rack_invariant q ready.there).answered r₀ has_answer_is).0

  pub lane_there : c₀ < s.lanes
  lane_there = lane_below first s.lanes w.block first_there w.below

  -- what was gathered
  pub firsts_here : (i : ℕ) → i < 8 → first_at r i ≡ first_of (get_or ((object s h q r w).firsts q).gathered i none)
  firsts_here i l = rw (lane_is s h q r w) at (v.firsts i l)

  pub seconds_here : (i : ℕ) → i < 8 → second_at r i ≡ second_of (get_or ((object s h q r w).seconds q).gathered i none)
  seconds_here i l = rw (lane_is s h q r w) at (v.seconds i l)

  -- the cells at work
  section_here : (section p : ℕ) → cell_now s t.cells r section (lane_at s r) p ≡ read_cell s t.cells section (suc r₀) c₀ p
  section_here section p = λ i. read_cell s t.cells section (v.round i) (lane_is s h q r w i) p

  pub first_here : (p : ℕ) → p < s.racks → cell_now s t.cells r first_cells (lane_at s r) p ≡ first_of ((object s h q r w).firsts p).cell
  first_here p l = section_here first_cells p ∙ tables.firsts_shown r₀ c₀ p round_there lane_there l

  pub second_here : (p : ℕ) → p < s.racks → cell_now s t.cells r second_cells (lane_at s r) p ≡ second_of ((object s h q r w).seconds p).cell
  second_here p l = section_here second_cells p ∙ tables.seconds_shown r₀ c₀ p round_there lane_there l

  pub own_here : (x : Value) → ((object s h q r w).firsts q).cell ≡ some x → own s t.cells q r ≡ x
  own_here x e = ap (λ (c : Cell). c.value) (first_here q ready.there) ∙ rw e

  -- what the decided source offered in the first lane
  chosen : c₀ ≡ first
      → (read_cell s t.cells offers (suc r₀) c₀ (decision_at s t.decisions (suc r₀) c₀)).value ≡ offer_of h.racks r₀ c₀ (h.decided r₀ c₀)
  chosen e =
      let x = (inv.rack_invariant q ready.there).answered r₀ has_answer_is in
      let p = x.1 in
      let d : h.decided r₀ c₀ ≡ some p = rw e x.2 in
      let o = inv.decided_offered r₀ c₀ p d in
      let source : decision_at s t.decisions (suc r₀) c₀ ≡ p = tables.decisions_shown r₀ c₀ round_there lane_there ∙ rw d in
      rw (source, d)
      (ap (λ (c : Cell). c.value) (tables.offers_shown r₀ c₀ p round_there lane_there o.0) ∙ rw o.1)

  pub proposal_here : proposal s t.cells q r t.decisions ≡ protocol.proposal h q r₀ c₀
  unfolding proposal protocol.proposal
  proposal_here =
      (λ i.
      let l = lane_is s h q r w i in
      let round = v.round i in
      cond (eqb l (w.first_is i)) (read_cell s t.cells offers round l (decision_at s t.decisions round l)).value (held_at r l))
      ∙ either (eq_or_ne c₀ first)
      (λ (e : c₀ ≡ first). rw (eq-eqb c₀ first e) (chosen e))
      (λ (d : c₀ ≢ first). rw (ne_eqb c₀ first d) (v.held c₀ lane_there))
