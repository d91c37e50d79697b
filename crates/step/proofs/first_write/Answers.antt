-- The calls are the text of `first_written`.
use native.Mathlib.Omega.{arith}
use Rattle.model.specs.Step.{first_written}
use Rattle.step.proofs.Places.{racks_few, step_small, block_here}
use Rattle.step.proofs.first_write.Goals as goal

pub lane_at-lane-requires : goal.lane_at-lane-requires
lane_at-lane-requires c = racks_few c.requires.block.at.round

pub write-requires : goal.write-requires
write-requires c =
    let b = c.requires.block in
    block_here b 1 _ _ (omega arith) c.lane_at-lane.ensures b.at.rack_there

pub advanced-requires : goal.advanced-requires
advanced-requires c = omega (arith, step_small c.requires.block.at.round)

pub returns : goal.returns
unfolding first_written
returns c = rw (c.advanced.ensures, c.write.ensures, c.lane_at-lane.ensures, c.offered.ensures, c.proposal-own.ensures)
