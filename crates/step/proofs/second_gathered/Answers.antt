-- The calls are the text of `second_gathered`; at such a step the rack read is one that is there.
use native.Mathlib.Omega.{arith}
use Rattle.model.specs.Step.{second_gathered}
use Rattle.kind.proofs.Places.{second_read_place, second_read_rack}
use Rattle.step.proofs.Places.{racks_few, step_small, block_here}
use Rattle.step.proofs.second_gathered.Goals as goal

pub place_at-requires : goal.place_at-requires
place_at-requires c = racks_few c.requires.0.at.round

pub overflow_add-other : goal.overflow_add-other
overflow_add-other c = omega (arith, racks_few c.requires.0.at.round)

pub overflow_sub-other : goal.overflow_sub-other
overflow_sub-other c = omega (arith, second_read_place _ _ c.requires.1)

pub lane_at-lane-requires : goal.lane_at-lane-requires
lane_at-lane-requires c = racks_few c.requires.0.at.round

pub read-c-requires : goal.read-c-requires
read-c-requires c =
    let p = c.requires in
    block_here p.0 2 _ _ (omega arith) c.lane_at-lane.ensures (rw c.place_at.ensures (second_read_rack _ _ p.1))

pub advanced-q-requires : goal.advanced-q-requires
advanced-q-requires c = omega (arith, step_small c.requires.0.at.round)

pub offset_bounds-q-other : goal.offset_bounds-q-other
offset_bounds-q-other c =
    let p = c.requires in
    omega (arith, racks_few p.0.at.round, second_read_place _ _ p.1)

pub bounds-q-other : goal.bounds-q-other
bounds-q-other c =
    let p = c.requires in
    omega (arith, racks_few p.0.at.round, second_read_place _ _ p.1)

pub returns : goal.returns
unfolding second_gathered
returns c = rw (c.advanced-q.ensures, c.read-c.ensures, c.lane_at-lane.ensures, c.place_at.ensures)
