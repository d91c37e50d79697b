-- The two steps of a block that write a cell: the card after them shows the history after the turn.
use mathlib.Core.Path.{◌≡◌, sym, ap, ◌∙◌}
use mathlib.Core.Option.{none}
use Prim.Native.Nat.{ℕ, suc, ◌+◌, ◌≤◌}
use native.Mathlib.Omega.{arith}
use lib.ListN.{get_or}
use Rattle.model.specs.declared.Size.{Size}
use Rattle.model.specs.declared.Value.{Value}
use Rattle.model.specs.declared.Rack as card
use Rattle.model.specs.declared.Kind.TheVariants.{FirstWrite, SecondWrite}
use Rattle.model.specs.Size.{block_steps}
use Rattle.model.specs.Record.{offered}
use Rattle.model.specs.Table.{Tables, first_cells, second_cells, write_cell}
use Rattle.model.specs.Kind.{place_at}
use Rattle.model.specs.Block.{second_cell}
use Rattle.model.specs.Step.{own, first_written, second_written, step_by}
use Rattle.steady.proofs.Kept.{Ready}
use Rattle.protocol.specs.AdoptCommit.{Marked}
use Rattle.protocol.specs.Layer.{Slot, written}
use Rattle.protocol.specs.Object.{Object, taken}
use Rattle.protocol.specs.FirstEdition.{first_edition}
use Rattle.protocol.specs.History as protocol
use Rattle.protocol.specs.History.{History, Turn}
use Rattle.protocol.proofs.Put.{put_same}
use Rattle.protocol.proofs.Ranges.{firsts_read_is, seconds_read_is}
use Rattle.protocol.proofs.Invariant.{Invariant}
use Rattle.night.specs.View.{first_of, marked_cell, second_of, RackView}
use Rattle.night.proofs.View.Walk.{Shows}
use Rattle.night.proofs.View.Rules.{second_seen}
use Rattle.night.proofs.View.Standing.{Visiting, place_is, lane_is}
use Rattle.night.proofs.View.Moves.{r₀, c₀, old, new, writes_first, writes_second, one_more, goes_on}
use Rattle.night.proofs.View.Within.{within_view}
use Rattle.night.proofs.View.Tables.{TablesView, AfterView, first_write_tables, second_write_tables}
use Rattle.night.proofs.View.Gathered.{nothing}
use Rattle.night.proofs.View.Here.{round_there, lane_there, firsts_here, seconds_here, own_here, proposal_here}

module _ (s : Size) (t : Tables) (h : History Marked) (move : Turn) (r : card.Rack) (ready : Ready s t move.rack r)
    (inv : Invariant first_edition s.racks s.lanes h) (tables : TablesView s t h) (v : RackView s h move.rack r)
    (w : Visiting s h move.rack r) where
  abbrev q : ℕ
  q = move.rack

  abbrev fin : ℕ
  fin = r₀ s h move r inv ready.there w

  abbrev c : ℕ
  c = c₀ s h move r inv ready.there w

  abbrev before : Object Marked
  before = old s h move r inv ready.there w

  abbrev after : Object Marked
  after = new s h move r inv ready.there w

  abbrev next : History Marked
  next = protocol.turn first_edition s.racks s.lanes h move

  pub first_write_view : (m p : ℕ) → place_at s r.step ≡ 0 → AfterView s q (step_by s t q r FirstWrite m p) next
  unfolding step_by first_written block_steps
  first_write_view m p e =
      let place = place_is s h q r w in
      let none_taken : taken before q ≡ 0 = sym place ∙ e in
      let one = one_more s h move r inv ready.there w in
      let low = ready.sizes.racks_low in
      let f = writes_first s h move r inv ready.there w none_taken in
      let x = protocol.proposal h q fin c in
      let is-written : first_written s t.cells q r t.decisions ≡ write_cell s t.cells first_cells (suc fin) c q (offered x) =
      λ i. write_cell s t.cells first_cells (v.round i) (lane_is s h q r w i) q (offered (proposal_here s t h q r ready inv tables v w i))
      in
      let slot : after.firsts q ≡ written x = ap (λ (o : Object Marked). o.firsts q) f ∙ put_same before.firsts q (written x) in
      let read = firsts_read_is first_edition.make s.racks before (inv.consistent fin c) q in
      rw (goes_on s h move r inv ready.there w (λ g. omega arith), is-written)
      (record {
        tables =
            first_write_tables s t h tables fin c q after ready.tables.exact.cells
            (round_there s t h q r ready inv tables v w) (lane_there s t h q r ready inv tables v w) ready.there x f;
        rack =
            within_view s h move r inv ready.there w v (omega arith) r.firsts r.seconds
            (λ i l.
            firsts_here s t h q r ready inv tables v w i l
            ∙ ap first_of (nothing (before.firsts q).gathered (omega arith) i ∙ sym (ap (λ (a : Slot Value). get_or a.gathered i none) slot)))
            (λ i l.
            seconds_here s t h q r ready inv tables v w i l ∙ ap (λ (o : Object Marked). second_of (get_or (o.seconds q).gathered i none)) (sym f));
      })

  -- all first cells are read
  firsts_shown : s.racks + 1 ≤ taken before q → Shows first_of r.firsts (before.firsts q).gathered
  firsts_shown enough =
      let read = firsts_read_is first_edition.make s.racks before (inv.consistent fin c) q in
      let eight = ready.sizes.racks_high in
      let long = ready.shape.firsts in
      record { room = omega arith; each = λ i l. firsts_here s t h q r ready inv tables v w i (omega arith) }

  pub second_write_view : (m p : ℕ) → place_at s r.step ≡ s.racks + 1 → AfterView s q (step_by s t q r SecondWrite m p) next
  unfolding step_by second_written block_steps
  second_write_view m p e =
      let place = place_is s h q r w in
      let all_read : taken before q ≡ s.racks + 1 = sym place ∙ e in
      let one = one_more s h move r inv ready.there w in
      let low = ready.sizes.racks_low in
      let f = writes_second s h move r inv ready.there w all_read in
      let list = (before.firsts q).gathered in
      let y = first_edition.make f.0 list in
      let firsts_long = firsts_read_is first_edition.make s.racks before (inv.consistent fin c) q in
      let seconds_long = seconds_read_is first_edition.make s.racks before (inv.consistent fin c) q in
      let made : second_cell r.firsts (own s t.cells q r) s.racks ≡ marked_cell y =
      ap (λ (x : Value). second_cell r.firsts x s.racks) (own_here s t h q r ready inv tables v w f.0 f.1)
      ∙ second_seen r.firsts list (firsts_shown (omega arith)) f.0 s.racks (omega arith)
      in
      let is-written : second_written s t.cells q r ≡ write_cell s t.cells second_cells (suc fin) c q (marked_cell y) =
      λ i. write_cell s t.cells second_cells (v.round i) (lane_is s h q r w i) q (made i)
      in
      let slot : after.seconds q ≡ written y = ap (λ (o : Object Marked). o.seconds q) f.2 ∙ put_same before.seconds q (written y) in
      rw (goes_on s h move r inv ready.there w (λ g. omega arith), is-written)
      (record {
        tables =
            second_write_tables s t h tables fin c q after ready.tables.exact.cells
            (round_there s t h q r ready inv tables v w) (lane_there s t h q r ready inv tables v w) ready.there y f.2;
        rack =
            within_view s h move r inv ready.there w v (omega arith) r.firsts r.seconds
            (λ i l.
            firsts_here s t h q r ready inv tables v w i l ∙ ap (λ (o : Object Marked). first_of (get_or (o.firsts q).gathered i none)) (sym f.2))
            (λ i l.
            seconds_here s t h q r ready inv tables v w i l
            ∙ ap second_of (nothing (before.seconds q).gathered (omega arith) i ∙ sym (ap (λ (a : Slot Marked). get_or a.gathered i none) slot)));
      })
