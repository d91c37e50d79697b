-- The calls are the text of `second_written`.
use mathlib.Core.Path.{◌≡◌}
use Prim.Native.Nat.{◌≤◌}
use native.Mathlib.Omega.{arith}
use borrow.Author.Rules.{rules}
use lib.ListN.{length}
use Rattle.block.proofs.Read.{second_cell_read}
use Rattle.model.specs.Step.{second_written}
use Rattle.step.proofs.Places.{racks_few, step_small, block_here}
use Rattle.step.proofs.second_write.Goals as goal

pub lane_at-lane-requires : goal.lane_at-lane-requires
lane_at-lane-requires c = racks_few c.requires.at.round

pub read-first-requires : goal.read-first-requires
read-first-requires c =
    let b = c.requires in
    block_here b 1 _ _ (omega arith) c.lane_at-lane.ensures b.at.rack_there

pub shared_ref_as_front-second_cell : goal.shared_ref_as_front-second_cell
shared_ref_as_front-second_cell c = omega (arith, racks_few c.requires.at.round)

pub write-requires : goal.write-requires
write-requires c =
    let b = c.requires in
    block_here b 2 _ _ (omega arith) c.lane_at-lane.ensures b.at.rack_there

pub advanced-requires : goal.advanced-requires
advanced-requires c = omega (arith, step_small c.requires.at.round)

pub returns : goal.returns
unfolding second_written
returns c =
    let a = c.args in
    let eight : length a.r.firsts ≡ 8 = search rules in
    let there : a.size.racks ≤ length a.r.firsts = omega (arith, racks_few c.requires.at.round) in
    rw (c.advanced.ensures, c.write.ensures, c.second_cell-c.ensures, second_cell_read a.r.firsts a.size.racks there c.read-first.result.value, c.read-first.ensures, c.lane_at-lane.ensures)
