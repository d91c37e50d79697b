-- The lane's test is the definition's own; the source of a decided first lane is a rack that is there.
use native.Mathlib.Omega.{arith}
use borrow.Author.Tests.{eq-eqb, ne_eqb}
use Rattle.model.specs.Step.{proposal}
use Rattle.step.proofs.Places.{racks_few, lane_few}
use Rattle.step.proofs.proposal.Goals as goal

pub lane_at-lane-requires : goal.lane_at-lane-requires
lane_at-lane-requires c = racks_few c.requires.block.at.round

pub returns-then-lane-first : goal.returns-then-lane-first
unfolding proposal
returns-then-lane-first c = rw (c.read-c.ensures, c.decision_at-source.ensures, ← c.lane_at-lane.ensures, eq-eqb _ _ c.if-lane-first.true)

pub offset_bounds-r-lane : goal.offset_bounds-r-lane
offset_bounds-r-lane c = omega (arith, lane_few c.requires.block _ c.lane_at-lane.ensures)

pub bounds-r-lane : goal.bounds-r-lane
bounds-r-lane c = lane_few c.requires.block _ c.lane_at-lane.ensures

pub returns : goal.returns
unfolding proposal
returns c = rw (← c.lane_at-lane.ensures, ne_eqb _ _ c.if-lane-first.false)
