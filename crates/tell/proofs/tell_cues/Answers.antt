-- The invariant: the records before the place are added, and what is left to add gives the whole.
use mathlib.Core.Path.{refl}
use native.Mathlib.Omega.{arith}
use lib.ListN.{length}
use Rattle.model.proofs.Refusals.{not_zero}
use Rattle.turns.proofs.Ends.{EndAt, end_at}
use Rattle.tell.proofs.Cues.{adding_first, adding_same, adding_next, adding_bad, adding_last}
use Rattle.tell.proofs.tell_cues.Goals as goal
use Rattle.tell.proofs.tell_cues.Goals.{After-place_behind-end}

-- where the record ends
ends : (c : After-place_behind-end) → EndAt (length c.args.bytes.now) c.loop-at.at c.place_behind-end.result
ends c = end_at c.args.bytes.now _ _ c.loop-at-test.true c.place_behind-end.ensures

pub loop-at-init : goal.loop-at-init
loop-at-init c = adding_first _ _ _ _

pub slice_bounds-add_cue-count : goal.slice_bounds-add_cue-count
slice_bounds-add_cue-count c = omega (arith, (ends (goal.at.slice_bounds-add_cue-count c).After-place_behind-end).later)

pub slice_bounds-add_cue-start : goal.slice_bounds-add_cue-start
slice_bounds-add_cue-start c = omega (arith, (ends (goal.at.slice_bounds-add_cue-start c).After-place_behind-end).later)

pub slice_bounds-add_cue-end : goal.slice_bounds-add_cue-end
slice_bounds-add_cue-end c = omega (arith, (ends (goal.at.slice_bounds-add_cue-end c).After-place_behind-end).inside)

pub shape_of-lists-in-Err : goal.shape_of-lists-in-Err
shape_of-lists-in-Err c = adding_same _ _ _ _ _ _ _ c.loop-at.invariant _ c.loop-at-test.true c.place_behind-end.ensures _ c.in-Err.ensures

pub returns-in-Err : goal.returns-in-Err
returns-in-Err c = adding_bad _ _ _ _ _ _ _ c.loop-at.invariant _ c.loop-at-test.true c.place_behind-end.ensures _ c.in-Err.ensures (not_zero _)

pub overflow_add-index : goal.overflow_add-index
overflow_add-index c = omega (arith, c.loop-at.invariant.few, c.loop-at-test.true)

pub loop-at-smaller : goal.loop-at-smaller
loop-at-smaller c = let e = ends (goal.at.loop-at-smaller c).After-place_behind-end in omega (arith, e.later, e.inside)

pub loop-at-preserved : goal.loop-at-preserved
loop-at-preserved c = adding_next _ _ _ _ _ _ _ c.loop-at.invariant _ c.loop-at-test.true c.place_behind-end.ensures _ c.in_default.ensures refl

pub shape_of-lists : goal.shape_of-lists
shape_of-lists c = c.loop-at.invariant.same

pub returns : goal.returns
returns c = adding_last _ _ _ _ _ _ _ c.loop-at.invariant c.loop-at-test.false
