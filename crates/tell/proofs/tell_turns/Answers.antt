-- The invariant: the records before the place are told, and what is left to tell gives the whole. The card stays steady, so that each turn
-- may be played without a test, and its tables keep their lengths.
use mathlib.Core.Path.{sym, ◌∙◌}
use Prim.Native.Nat.{◌≤◌, ◌<◌}
use native.Mathlib.Omega.{arith}
use lib.ListN.{length, drop}
use Rattle.model.specs.InUse.{tables_of, card_of}
use Rattle.model.specs.Table.{Card}
use Rattle.model.specs.Night.{pieces}
use Rattle.model.proofs.Sizes.{Exact, fits_exact}
use Rattle.play.specs.Playable.{Playable}
use Rattle.play.proofs.Turned.{few, tested_rack, turned_rack}
use Rattle.turns.proofs.Ends.{EndAt, end_at, fewer}
use Rattle.tell.proofs.Turns.{told_taken, told_refused, going_first, going_next, going_last}
use Rattle.tell.proofs.tell_turns.Goals as goal
use Rattle.tell.proofs.tell_turns.Goals.{After-place_behind-next, After-rack_named-rack, At-loop-at}

-- where the record ends
ends : (c : After-place_behind-next) → EndAt (length c.args.bytes.now) c.loop-at.at c.place_behind-next.result
ends c = end_at c.args.bytes.now _ _ c.loop-at-test.true c.place_behind-next.ensures

-- one record is left at least
less : (c : After-place_behind-next) → 1 ≤ length (pieces (drop c.loop-at.at c.args.bytes.now))
less c = omega (arith, fewer c.args.bytes.now _ _ c.loop-at-test.true c.place_behind-next.ensures)

-- the card before the turn
abbrev card : After-rack_named-rack → Card
card c =
    let l = c.loop-at in
    card_of l.cells l.logs l.decisions l.racks

playable : (c : After-rack_named-rack) → Playable c.args.size (card c)
playable c = record { fit = c.loop-at.invariant.steady.fit; ok = c.loop-at.invariant.steady.ok }

there : (c : After-rack_named-rack) → c.rack_named-rack.result < 8
there c = few _ (card c) (playable c) _ _ c.rack_named-rack.ensures

-- the lengths are those of the size, before and after
exact_first : (c : At-loop-at) → Exact c.args.size (tables_of c.args.cells.now c.args.logs.now c.args.decisions.now)
exact_first c = fits_exact _ _ c.requires.fit

exact_last : (c : At-loop-at) → Exact c.args.size (tables_of c.loop-at.cells c.loop-at.logs c.loop-at.decisions)
exact_last c = fits_exact _ _ c.loop-at.invariant.steady.fit

pub loop-at-init : goal.loop-at-init
loop-at-init c = going_first _ _ _ _ _ c.requires

pub slice_bounds-turn-count : goal.slice_bounds-turn-count
slice_bounds-turn-count c = omega (arith, (ends (goal.at.slice_bounds-turn-count c).After-place_behind-next).later)

pub slice_bounds-turn-start : goal.slice_bounds-turn-start
slice_bounds-turn-start c = omega (arith, (ends (goal.at.slice_bounds-turn-start c).After-place_behind-next).later)

pub slice_bounds-turn-end : goal.slice_bounds-turn-end
slice_bounds-turn-end c = omega (arith, (ends (goal.at.slice_bounds-turn-end c).After-place_behind-next).inside)

pub overflow_add-number : goal.overflow_add-number
overflow_add-number c = omega (arith, c.loop-at.invariant.few, less (goal.at.overflow_add-number c).After-place_behind-next)

pub offset_bounds-racks-rack : goal.offset_bounds-racks-rack
offset_bounds-racks-rack c = omega (arith, there (goal.at.offset_bounds-racks-rack c).After-rack_named-rack)

pub bounds-racks-rack : goal.bounds-racks-rack
bounds-racks-rack c = there (goal.at.bounds-racks-rack c).After-rack_named-rack

pub play_rack-requires : goal.play_rack-requires
play_rack-requires c =
    let h = (goal.at.play_rack-requires c).After-rack_named-rack in
    tested_rack _ (card h) (playable h) _ _ c.rack_named-rack.ensures

pub offset_bounds-racks-rack-in-Ok : goal.offset_bounds-racks-rack-in-Ok
offset_bounds-racks-rack-in-Ok c = omega (arith, there (goal.at.offset_bounds-racks-rack-in-Ok c).After-rack_named-rack)

pub bounds-racks-rack-in-Ok : goal.bounds-racks-rack-in-Ok
bounds-racks-rack-in-Ok c = there (goal.at.bounds-racks-rack-in-Ok c).After-rack_named-rack

pub overflow_add-taken : goal.overflow_add-taken
overflow_add-taken c =
    let going = c.loop-at.invariant in
    omega (arith, going.few, going.fewer, less (goal.at.overflow_add-taken c).After-place_behind-next)

pub loop-at-smaller-in-Ok : goal.loop-at-smaller-in-Ok
loop-at-smaller-in-Ok c = let e = ends (goal.at.loop-at-smaller-in-Ok c).After-place_behind-next in omega (arith, e.later, e.inside)

pub loop-at-preserved-in-Ok : goal.loop-at-preserved-in-Ok
loop-at-preserved-in-Ok c =
    let h = (goal.at.loop-at-preserved-in-Ok c).After-rack_named-rack in
    let turned = turned_rack _ (card h) (playable h) _ _ c.rack_named-rack.ensures _ c.in-Ok.ensures in
    going_next _ _ _ _ _ _ _ _ _ _ c.loop-at.invariant c.loop-at-test.true c.place_behind-next.ensures (told_taken _ _ _ _ _ _ _ _ turned)

pub refused_line-place-requires : goal.refused_line-place-requires
refused_line-place-requires c =
    let going = c.loop-at.invariant in
    let one = less (goal.at.refused_line-place-requires c).After-place_behind-next in
    omega (arith, going.room, going.same)

pub loop-at-smaller : goal.loop-at-smaller
loop-at-smaller c = let e = ends (goal.at.loop-at-smaller c).After-place_behind-next in omega (arith, e.later, e.inside)

pub loop-at-preserved : goal.loop-at-preserved
loop-at-preserved c =
    let h = (goal.at.loop-at-preserved c).After-rack_named-rack in
    let turned = turned_rack _ (card h) (playable h) _ _ c.rack_named-rack.ensures _ c.in-Err.ensures in
    going_next _ _ _ _ _ _ _ _ _ _ c.loop-at.invariant c.loop-at-test.true c.place_behind-next.ensures
    (told_refused _ _ _ _ _ _ _ _ _ _ _ _ _ turned c.refused_line-place.ensures c.into.ensures)

pub shape_of-cells : goal.shape_of-cells
shape_of-cells c = (exact_last (goal.at.shape_of-cells c).At-loop-at).cells ∙ sym (exact_first (goal.at.shape_of-cells c).At-loop-at).cells

pub shape_of-logs : goal.shape_of-logs
shape_of-logs c = (exact_last (goal.at.shape_of-logs c).At-loop-at).logs ∙ sym (exact_first (goal.at.shape_of-logs c).At-loop-at).logs

pub shape_of-decisions : goal.shape_of-decisions
shape_of-decisions c = (exact_last (goal.at.shape_of-decisions c).At-loop-at).decisions ∙ sym (exact_first (goal.at.shape_of-decisions c).At-loop-at).decisions

pub shape_of-out : goal.shape_of-out
shape_of-out c = c.loop-at.invariant.same

pub returns : goal.returns
returns c = going_last _ _ _ _ _ _ _ _ c.loop-at.invariant c.loop-at-test.false
