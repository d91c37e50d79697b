-- The length is that of the log which settling the lane would leave.
use Prim.Native.Nat.{◌<◌}
use native.Mathlib.Omega.{arith}
use Rattle.model.proofs.Sizes.{sizes}
use Rattle.settle.proofs.Lane.{lane_as, lane_room}
use Rattle.settle.proofs.lane_fits.Goals as goal
use Rattle.settle.proofs.lane_fits.Goals.{Start}

few_lanes : (c : Start) → c.args.lane < 4
few_lanes c =
    let z = sizes c.args.size c.requires.0.sizes in
    let h = c.requires.1 in
    omega arith

pub offset_bounds-r-lane : goal.offset_bounds-r-lane
offset_bounds-r-lane c = omega (arith, few_lanes (goal.at.offset_bounds-r-lane c).Start)

pub bounds-r-lane : goal.bounds-r-lane
bounds-r-lane c = few_lanes (goal.at.bounds-r-lane c).Start

pub offset_bounds-r-lane-2 : goal.offset_bounds-r-lane-2
offset_bounds-r-lane-2 c = omega (arith, few_lanes (goal.at.offset_bounds-r-lane-2 c).Start)

pub bounds-r-lane-2 : goal.bounds-r-lane-2
bounds-r-lane-2 c = few_lanes (goal.at.bounds-r-lane-2 c).Start

pub settled_length-count-requires : goal.settled_length-count-requires
settled_length-count-requires c =
    let a = c.args in
    lane_room a.size a.logs.now a.rack a.r a.lane c.log_start-start.ensures c.requires.0 c.requires.1

pub returns : goal.returns
returns c =
    let a = c.args in
    rw (c.settled_length-count.ensures, lane_as a.size a.logs.now a.rack a.r a.lane c.log_start-start.ensures)
