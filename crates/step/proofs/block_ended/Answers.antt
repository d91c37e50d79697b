-- The calls are the text of `block_ended`.
use mathlib.Core.Path.{◌≡◌}
use Prim.Native.Nat.{◌≤◌}
use native.Mathlib.Omega.{arith}
use lib.ListN.{length}
use Rattle.block.proofs.Read.{newest_read, result_read}
use Rattle.model.specs.Block.{newest, news}
use borrow.Author.Rules.{rules}
use Rattle.model.specs.Record.{no_cell}
use Rattle.model.specs.Step.{block_ended}
use Rattle.step.proofs.Places.{racks_few, lane_few, block_here}
use Rattle.step.proofs.block_ended.Goals as goal

pub lane_at-lane-requires : goal.lane_at-lane-requires
lane_at-lane-requires c = racks_few c.requires.at.round

pub read-first-requires : goal.read-first-requires
read-first-requires c =
    let b = c.requires in
    block_here b 1 _ _ (omega arith) c.lane_at-lane.ensures b.at.rack_there

pub read-second-requires : goal.read-second-requires
read-second-requires c =
    let b = c.requires in
    block_here b 2 _ _ (omega arith) c.lane_at-lane.ensures b.at.rack_there

pub shared_ref_as_front-firsts : goal.shared_ref_as_front-firsts
shared_ref_as_front-firsts c = omega (arith, racks_few c.requires.at.round)

pub offset_bounds-q-lane : goal.offset_bounds-q-lane
offset_bounds-q-lane c = omega (arith, lane_few c.requires _ c.lane_at-lane.ensures)

-- the lane is one of the four
pub bounds-q-lane : goal.bounds-q-lane
bounds-q-lane c = lane_few c.requires _ c.lane_at-lane.ensures

pub offset_bounds-q-lane-2 : goal.offset_bounds-q-lane-2
offset_bounds-q-lane-2 c = omega (arith, lane_few c.requires _ c.lane_at-lane.ensures)

-- the lane is one of the four
pub bounds-q-lane-2 : goal.bounds-q-lane-2
bounds-q-lane-2 c = lane_few c.requires _ c.lane_at-lane.ensures

pub returns : goal.returns
unfolding block_ended news
returns c =
    let g = c.args.gathered in
    let n = c.args.size.racks in
    let few = racks_few c.requires.at.round in
    let firsts : length g.firsts ≡ 8 = search rules in
    let seconds : length g.seconds ≡ 8 = search rules in
    let firsts_there : n ≤ length g.firsts = omega (arith, few) in
    let seconds_there : n ≤ length g.seconds = omega (arith, few) in
    let none : c.default-none.result ≡ no_cell = search rules in
    rw (
      none,
      c.news-news.ensures,
      c.result-result.ensures,
      newest_read g.firsts n firsts_there no_cell,
      newest_read g.seconds n seconds_there (newest g.firsts no_cell n),
      result_read g.seconds n seconds_there c.read-first.result.value c.read-second.result.value,
      c.read-second.ensures,
      c.read-first.ensures,
      c.lane_at-lane.ensures,
    )
