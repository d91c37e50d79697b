-- The steps of a block that read a cell, but for its last: the card after them shows the history after the turn.
use mathlib.Core.Path.{◌≡◌, sym, ap, ◌∙◌}
use mathlib.Core.Logic.{◌≢◌}
use mathlib.Core.List.{List, [], ◌∷◌, ◌++◌}
use mathlib.Core.Option.{Option, none}
use Prim.Native.Nat.{ℕ, ◌+◌, ◌-◌, ◌≤◌, ◌<◌}
use native.Mathlib.Omega.{arith}
use borrow.Author.Tests.{ne_eqb}
use lib.ListN.{length, get_or, set}
use Rattle.model.specs.declared.Size.{Size}
use Rattle.model.specs.declared.Value.{Value}
use Rattle.model.specs.declared.Cell.{Cell}
use Rattle.model.specs.declared.Rack as card
use Rattle.model.specs.declared.Kind.TheVariants.{FirstRead, SecondRead}
use Rattle.model.specs.Size.{block_steps, round_steps}
use Rattle.model.specs.Record.{no_cell}
use Rattle.model.specs.Table.{Tables, first_cells, second_cells, cell_now}
use Rattle.model.specs.Kind.{place_at, lane_at}
use Rattle.model.specs.Step.{after_first_read, second_gathered, after_second_read, is_last, second_read_taken, step_by}
use Rattle.steady.proofs.Kept.{Ready}
use Rattle.steady.proofs.Onward.{not_last}
use Rattle.protocol.specs.AdoptCommit.{Marked}
use Rattle.protocol.specs.Layer.{Slot, read}
use Rattle.protocol.specs.Object.{Object, read_second}
use Rattle.protocol.specs.FirstEdition.{first_edition}
use Rattle.protocol.specs.History as protocol
use Rattle.protocol.specs.History.{History, Turn}
use Rattle.protocol.proofs.Put.{put_same}
use Rattle.protocol.proofs.Ranges.{firsts_read_is, seconds_read_is}
use Rattle.protocol.proofs.Invariant.{Invariant}
use Rattle.night.specs.View.{first_of, second_of, RackView}
use Rattle.night.proofs.View.Standing.{Visiting, place_is}
use Rattle.night.proofs.View.Moves.{r₀, c₀, old, new, reads_first, reads_second, one_more, goes_on}
use Rattle.night.proofs.View.Within.{within_view}
use Rattle.night.proofs.View.Tables.{TablesView, AfterView, first_read_tables, second_read_tables}
use Rattle.night.proofs.View.Gathered.{one_more_shown}
use Rattle.night.proofs.View.Here.{firsts_here, seconds_here, first_here, second_here}

module _ (s : Size) (t : Tables) (h : History Marked) (move : Turn) (r : card.Rack) (ready : Ready s t move.rack r)
    (inv : Invariant first_edition s.racks s.lanes h) (tables : TablesView s t h) (v : RackView s h move.rack r)
    (w : Visiting s h move.rack r) where
  abbrev q : ℕ
  q = move.rack

  abbrev fin : ℕ
  fin = r₀ s h move r inv ready.there w

  abbrev c : ℕ
  c = c₀ s h move r inv ready.there w

  abbrev before : Object Marked
  before = old s h move r inv ready.there w

  abbrev after : Object Marked
  after = new s h move r inv ready.there w

  abbrev next : History Marked
  next = protocol.turn first_edition s.racks s.lanes h move

  pub first_read_view : (m p : ℕ) → 1 ≤ place_at s r.step → place_at s r.step ≤ s.racks → AfterView s q (step_by s t q r FirstRead m p) next
  unfolding step_by after_first_read block_steps
  first_read_view m p low high =
      let place = place_is s h q r w in
      let one = one_more s h move r inv ready.there w in
      let f = reads_first s h move r inv ready.there w (omega arith) (omega arith) in
      let list = (before.firsts q).gathered in
      let long = firsts_read_is first_edition.make s.racks before (inv.consistent fin c) q in
      let i₀ = place_at s r.step - 1 in
      let x : Option Value = (before.firsts (length list)).cell in
      let at : i₀ ≡ length list = omega arith in
      let eight = ready.sizes.racks_high in
      let room = ready.shape.firsts in
      let cell = cell_now s t.cells r first_cells (lane_at s r) i₀ in
      let was_read : cell ≡ first_of x =
      first_here s t h q r ready inv tables v w i₀ (omega arith) ∙ ap (λ (j : ℕ). first_of (before.firsts j).cell) at
      in
      let slot : after.firsts q ≡ read before.firsts (before.firsts q) =
      ap (λ (o : Object Marked). o.firsts q) f ∙ put_same before.firsts q (read before.firsts (before.firsts q))
      in
      rw (goes_on s h move r inv ready.there w (λ g. omega arith))
      (record {
        tables = first_read_tables s t h tables fin c q after f;
        rack =
            within_view s h move r inv ready.there w v (omega arith) (set r.firsts i₀ cell) r.seconds
            (λ i l.
            one_more_shown list x first_of r.firsts i₀ cell at (omega arith) was_read (firsts_here s t h q r ready inv tables v w) i l
            ∙ sym (ap (λ (a : Slot Value). first_of (get_or a.gathered i none)) slot))
            (λ i l.
            seconds_here s t h q r ready inv tables v w i l ∙ ap (λ (o : Object Marked). second_of (get_or (o.seconds q).gathered i none)) (sym f));
      })

  -- the read of a second cell
  module _ (low : s.racks + 2 ≤ place_at s r.step) where
    abbrev pub seconds : List (Option Marked)
    seconds = (before.seconds q).gathered

    abbrev pub at : ℕ
    at = place_at s r.step - (s.racks + 2)

    abbrev pub cell : Cell
    cell = cell_now s t.cells r second_cells (lane_at s r) at

    pub is_read : new s h move r inv ready.there w ≡ read_second (old s h move r inv ready.there w) move.rack
    is_read = let place = place_is s h q r w in reads_second s h move r inv ready.there w (omega arith)

    seconds_after : (after.seconds q).gathered ≡ seconds ++ ((before.seconds (length seconds)).cell ∷ [])
    seconds_after =
        ap (λ (o : Object Marked). (o.seconds q).gathered) is_read
        ∙ ap (λ (a : Slot Marked). a.gathered) (put_same before.seconds q (read before.seconds (before.seconds q)))

    pub seconds_shown : (i : ℕ) → i < 8 → get_or (set r.seconds at cell) i no_cell ≡ second_of (get_or (after.seconds q).gathered i none)
    unfolding block_steps
    seconds_shown i l =
        let place = place_is s h q r w in
        let few = w.at.below in
        let long = seconds_read_is first_edition.make s.racks before (inv.consistent fin c) q in
        let here : at ≡ length seconds = omega arith in
        let eight = ready.sizes.racks_high in
        let room = ready.shape.seconds in
        let was_read : cell ≡ second_of (before.seconds (length seconds)).cell =
        second_here s t h q r ready inv tables v w at (omega arith) ∙ ap (λ (j : ℕ). second_of (before.seconds j).cell) here
        in
        one_more_shown seconds (before.seconds (length seconds)).cell second_of r.seconds at cell here (omega arith) was_read
        (seconds_here s t h q r ready inv tables v w) i l
        ∙ sym (ap (λ (list : List (Option Marked)). second_of (get_or list i none)) seconds_after)

    pub second_read_view : (m p : ℕ) → place_at s r.step + 1 ≢ block_steps s → AfterView s q (step_by s t q r SecondRead m p) next
    unfolding step_by second_read_taken after_second_read second_gathered is_last block_steps
    second_read_view m p d =
        let place = place_is s h q r w in
        let one = one_more s h move r inv ready.there w in
        let few = w.at.below in
        let counted = w.at.counted in
        let more : place_at s r.step + 1 < block_steps s = omega (arith, d) in
        let inner = not_last s t q r ready.rack_sound (omega arith) r.firsts r.seconds r.results r.news more in
        rw (
          goes_on s h move r inv ready.there w (λ g. omega (arith, d)),
          ne_eqb (r.step + 1) (round_steps s) (λ e. omega arith),
          ne_eqb (at + 1) s.racks (λ e. omega (arith, d)),
        )
        (record {
          tables = second_read_tables s t h tables fin c q after is_read;
          rack =
              within_view s h move r inv ready.there w v (omega arith) r.firsts (set r.seconds at cell)
              (λ i l.
              firsts_here s t h q r ready inv tables v w i l ∙ ap (λ (o : Object Marked). first_of (get_or (o.firsts q).gathered i none)) (sym is_read))
              seconds_shown;
        })
