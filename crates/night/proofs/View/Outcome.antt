-- The last read of a block: the result and the news that the rack gets are those of its object in the history.
use mathlib.Core.Path.{◌≡◌, refl, sym, ap, ◌∙◌}
use mathlib.Core.Logic.{◌≢◌}
use mathlib.Core.Bool.{cond}
use mathlib.Core.List.{List, [], ◌∷◌, map}
use mathlib.Core.Option
use mathlib.Core.Option.{Option, none, some}
use Prim.Native.Nat.{ℕ, ◌+◌, ◌≤◌, ◌<◌}
use native.Mathlib.Omega.{arith}
use borrow.Author.Tests.{eq-eqb}
use lib.Dec.{eqb}
use lib.ListN.{length, get_or, set, length-set}
use lib.Seq.{get_or-set_same, get_or-set_other}
use Rattle.laws.proofs.Cases.{either, eq_or_ne}
use Rattle.model.specs.declared.Size.{Size}
use Rattle.model.specs.declared.Value.{Value}
use Rattle.model.specs.declared.Cell.{Cell}
use Rattle.model.specs.declared.Rack as card
use Rattle.model.specs.Size.{block_steps}
use Rattle.model.specs.Record.{no_value, no_cell}
use Rattle.model.specs.Table.{Tables, second_cells, cell_now, result_at, news_at}
use Rattle.model.specs.Kind.{place_at, lane_at}
use Rattle.model.specs.Block as block
use Rattle.model.specs.Step.{own}
use Rattle.steady.proofs.Kept.{Ready}
use Rattle.steady.proofs.BlockEnd.{ended}
use Rattle.protocol.specs.AdoptCommit.{Marked}
use Rattle.protocol.specs.Layer.{Slot, read}
use Rattle.protocol.specs.Object.{Object, taken}
use Rattle.protocol.specs.Edition.{result, news_of}
use Rattle.protocol.specs.FirstEdition.{first_edition}
use Rattle.protocol.specs.History.{History, Turn}
use Rattle.protocol.proofs.Put.{put_same}
use Rattle.protocol.proofs.Ranges.{firsts_read_is, seconds_read_is, first_written_is, second_written_is}
use Rattle.protocol.proofs.Invariant.{Invariant}
use Rattle.night.specs.View.{first_of, marked_cell, second_of, RackView}
use Rattle.night.proofs.View.Walk.{Shows}
use Rattle.night.proofs.View.Rules.{result_seen}
use Rattle.night.proofs.View.News.{news_seen}
use Rattle.night.proofs.View.Logs.{marked_value}
use Rattle.night.proofs.View.Standing.{Visiting, place_is, lane_is}
use Rattle.night.proofs.View.Moves.{r₀, c₀, old, new, moved, one_more, new_consistent}
use Rattle.night.proofs.View.Within.{here_new, else_old}
use Rattle.night.proofs.View.Tables.{TablesView}
use Rattle.night.proofs.View.Here.{firsts_here, second_here, own_here}
use Rattle.night.proofs.View.Reading.{at, cell, is_read, seconds_shown}

-- in the first edition others see a second cell as it is
as_marked : (list : List (Option Marked)) → map (Option.map first_edition.mark) list ≡ list
as_marked [] = refl
as_marked (none ∷ list) = ap (λ (l : List (Option Marked)). none ∷ l) (as_marked list)
as_marked (some m ∷ list) = ap (λ (l : List (Option Marked)). some m ∷ l) (as_marked list)

module _ (s : Size) (t : Tables) (h : History Marked) (move : Turn) (r : card.Rack) (ready : Ready s t move.rack r)
    (inv : Invariant first_edition s.racks s.lanes h) (tables : TablesView s t h) (v : RackView s h move.rack r)
    (w : Visiting s h move.rack r) (late : 2 ≤ r.step) (low : s.racks + 2 ≤ place_at s r.step)
    (last : place_at s r.step + 1 ≡ block_steps s) where
  abbrev q : ℕ
  q = move.rack

  abbrev fin : ℕ
  fin = r₀ s h move r inv ready.there w

  abbrev c : ℕ
  c = c₀ s h move r inv ready.there w

  abbrev before : Object Marked
  before = old s h move r inv ready.there w

  abbrev after : Object Marked
  after = new s h move r inv ready.there w

  pub all_taken : taken (new s h move r inv ready.there w) move.rack ≡ block_steps s
  all_taken =
      let place = place_is s h q r w in
      let one = one_more s h move r inv ready.there w in
      omega arith

  same_firsts : after.firsts q ≡ before.firsts q
  same_firsts = ap (λ (o : Object Marked). o.firsts q) (is_read s t h move r ready inv tables v w low)

  slot : after.seconds q ≡ read before.seconds (before.seconds q)
  slot =
      ap (λ (o : Object Marked). o.seconds q) (is_read s t h move r ready inv tables v w low)
      ∙ put_same before.seconds q (read before.seconds (before.seconds q))

  abbrev gathered : List Cell
  gathered = set r.seconds (at s t h move r ready inv tables v w low) (cell s t h move r ready inv tables v w low)

  seconds_long : length (after.seconds q).gathered ≡ s.racks
  unfolding block_steps
  seconds_long =
      let e = all_taken in
      let f = seconds_read_is first_edition.make s.racks after (new_consistent s h move r inv ready.there w) q in
      omega arith

  firsts_long : length (after.firsts q).gathered ≡ s.racks
  unfolding block_steps
  firsts_long =
      let e = all_taken in
      let f = firsts_read_is first_edition.make s.racks after (new_consistent s h move r inv ready.there w) q in
      omega arith

  firsts_gathered : Shows first_of r.firsts (after.firsts q).gathered
  firsts_gathered =
      let long = firsts_long in
      let eight = ready.sizes.racks_high in
      let room = ready.shape.firsts in
      record {
        room = omega arith;
        each =
            λ i l.
            firsts_here s t h q r ready inv tables v w i (omega arith)
            ∙ sym (ap (λ (a : Slot Value). first_of (get_or a.gathered i none)) same_firsts);
      }

  seconds_gathered : Shows second_of gathered (after.seconds q).gathered
  seconds_gathered =
      let long = seconds_long in
      let eight = ready.sizes.racks_high in
      let room = length-set r.seconds (at s t h move r ready inv tables v w low) (cell s t h move r ready inv tables v w low) ∙ ready.shape.seconds in
      record { room = omega arith; each = λ i l. seconds_shown s t h move r ready inv tables v w low i (omega arith) }

  result_here : block.result_of gathered (own s t.cells q r) (cell_now s t.cells r second_cells (lane_at s r) q).value s.racks
      ≡ marked_cell (result first_edition after q)
  unfolding result
  result_here =
      let place = place_is s h q r w in
      let x = first_written_is first_edition.make s.racks before (inv.consistent fin c) q (omega arith) in
      let y = second_written_is first_edition.make s.racks before (inv.consistent fin c) q (omega arith) in
      let first_cell : (after.firsts q).cell ≡ some x.0 = ap (λ (a : Slot Value). a.cell) same_firsts ∙ x.1 in
      let second-cell : (after.seconds q).cell ≡ some y.0 = ap (λ (a : Slot Marked). a.cell) slot ∙ y.1 in
      let own_value = own_here s t h q r ready inv tables v w x.0 x.1 in
      let second_value_is : (cell_now s t.cells r second_cells (lane_at s r) q).value ≡ y.0.value =
      ap (λ (d : Cell). d.value) (second_here s t h q r ready inv tables v w q ready.there) ∙ rw y.1 (marked_value y.0)
      in
      (λ i. block.result_of gathered (own_value i) (second_value_is i) s.racks)
      ∙ rw (first_cell, second-cell, as_marked (after.seconds q).gathered)
      (result_seen gathered (after.seconds q).gathered seconds_gathered x.0 y.0.value s.racks seconds_long)

  news_here : block.news r.firsts gathered s.racks ≡ news_of first_edition after q
  unfolding news_of
  news_here =
      news_seen r.firsts gathered (after.firsts q).gathered (after.seconds q).gathered firsts_gathered seconds_gathered s.racks
      firsts_long seconds_long

  abbrev end : card.Rack
  end = ended s t move.rack r ready late low

  -- "each lane it has finished has a result and news, each other lane neither"
  pub results_ended : (lane : ℕ) → lane < s.lanes
      → let o = (moved s h move r inv ready.there w).objects (h.racks move.rack).finished lane in
      result_at (ended s t move.rack r ready late low) lane
      ≡ cond (eqb (taken o move.rack) (block_steps s)) (marked_cell (result first_edition o move.rack)) no_cell
  results_ended lane l =
      let four = ready.sizes.lanes_high in
      either (eq_or_ne lane c)
      (λ (e : lane ≡ c).
      let room : lane_at s r < length r.results = let f = ready.shape.results in let g = lane_is s h q r w in omega arith in
      ap (λ (x : ℕ). result_at end x) (e ∙ sym (lane_is s h q r w))
      ∙ get_or-set_same r.results (lane_at s r) _ no_cell room
      ∙ result_here
      ∙ rw (e, here_new s h move r inv ready.there w v, eq-eqb (taken after q) (block_steps s) all_taken))
      (λ (d : lane ≢ c).
      get_or-set_other r.results (lane_at s r) lane _ no_cell (λ e. d (e ∙ lane_is s h q r w))
      ∙ rw (else_old s h move r inv ready.there w v lane d) (v.results lane l))

  pub news_ended : (lane : ℕ) → lane < s.lanes
      → let o = (moved s h move r inv ready.there w).objects (h.racks move.rack).finished lane in
      news_at (ended s t move.rack r ready late low) lane
      ≡ cond (eqb (taken o move.rack) (block_steps s)) (news_of first_edition o move.rack) no_value
  news_ended lane l =
      let four = ready.sizes.lanes_high in
      either (eq_or_ne lane c)
      (λ (e : lane ≡ c).
      let room : lane_at s r < length r.news = let f = ready.shape.news in let g = lane_is s h q r w in omega arith in
      ap (λ (x : ℕ). news_at end x) (e ∙ sym (lane_is s h q r w))
      ∙ get_or-set_same r.news (lane_at s r) _ no_value room
      ∙ news_here
      ∙ rw (e, here_new s h move r inv ready.there w v, eq-eqb (taken after q) (block_steps s) all_taken))
      (λ (d : lane ≢ c).
      get_or-set_other r.news (lane_at s r) lane _ no_value (λ e. d (e ∙ lane_is s h q r w))
      ∙ rw (else_old s h move r inv ready.there w v lane d) (v.news lane l))
