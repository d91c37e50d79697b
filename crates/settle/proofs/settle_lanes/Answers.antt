-- The invariant: the table and the rack are what the lanes so far leave. So each lane has room when its turn comes.
use lib.ListN.{length}
use native.Mathlib.Omega.{arith}
use mathlib.Core.Path.{sym, ap, subst, ◌∙◌}
use Prim.Native.Nat.{ℕ, ◌+◌, ◌*◌, ◌-◌, ◌≤◌, ◌<◌}
use native.Mathlib.Numerals.{add-one}
use borrow.Author.Rules.{rules}
use Rattle.model.proofs.Sizes.{sizes}
use Rattle.model.specs.InUse.{logs_of}
use Rattle.model.specs.Settle.{lane_log, Settled, settle_lane, settle_lanes}
use Rattle.settle.specs.Lent.{Lent}
use Rattle.settle.proofs.Lanes.{fits_in_turn}
use Rattle.settle.proofs.Part.{part_lent, part_settled}
use Rattle.settle.proofs.Lane.{lane_room}
use Rattle.settle.proofs.settle_lanes.Goals as goal
use Rattle.settle.proofs.settle_lanes.Goals.{After-log_start-a, In-loop-lane, Start}

-- the table as it then stands is lent, and the lane has room in it
lent : (c : In-loop-lane) → Lent c.args.size c.loop-lane.logs c.args.rack
lent c =
    let p = c.requires.lent in
    record { sizes = p.sizes; exact = c.loop-lane.invariant.1.0 ∙ p.exact; rack_there = p.rack_there }

short : (c : In-loop-lane)
    → (lane_log c.args.size c.args.rack (logs_of c.loop-lane.logs) c.loop-lane.q c.loop-lane.lane).length
    ≤ c.args.size.rounds
short c =
    let loop = c.loop-lane in
    let a = c.args in
    subst (λ (x : Settled). (lane_log a.size a.rack x.logs x.rack loop.lane).length ≤ a.size.rounds) (sym loop.invariant.1.1)
    (fits_in_turn a.size a.rack (logs_of a.logs.now) a.r c.requires.room loop.lane c.loop-lane-test.true)

room : (c : After-log_start-a)
    → 2 * (c.log_start-a.result + c.args.size.rounds) ≤ length c.loop-lane.logs
room c =
    let loop = c.loop-lane in
    let a = c.args in
    (lane_room a.size loop.logs a.rack loop.q loop.lane c.log_start-a.ensures (lent c.before) c.loop-lane-test.true).inside

few_racks : (c : Start) → c.args.rack < 8
few_racks c =
    let z = sizes c.args.size c.requires.lent.sizes in
    let h = c.requires.lent.rack_there in
    omega arith

pub loop-lane-init : goal.loop-lane-init
unfolding settle_lanes
loop-lane-init c = search rules

pub overflow_mul-a : goal.overflow_mul-a
overflow_mul-a c = omega (arith, room (goal.at.overflow_mul-a c).After-log_start-a)

pub overflow_mul-e : goal.overflow_mul-e
overflow_mul-e c = omega (arith, room (goal.at.overflow_mul-e c).After-log_start-a)

pub overflow_add-e : goal.overflow_add-e
overflow_add-e c = omega (arith, room (goal.at.overflow_add-e c).After-log_start-a)

pub slice_bounds-settle-end : goal.slice_bounds-settle-end
slice_bounds-settle-end c = omega (arith, room (goal.at.slice_bounds-settle-end c).After-log_start-a)

pub overflow_cast-rack : goal.overflow_cast-rack
overflow_cast-rack c = omega (arith, few_racks (goal.at.overflow_cast-rack c).Start)

pub settle-q-requires : goal.settle-q-requires
settle-q-requires c =
    let start = c.log_start-a in
    let loop = c.loop-lane in
    let a = c.args in
    part_lent a.size a.rack loop.logs loop.q loop.lane (2 * start.result) (2 * start.result + 2 * a.size.rounds - 2 * start.result)
    (ap (λ (x : ℕ). 2 * x) start.ensures) (omega arith) (lent (goal.at.settle-q-requires c).In-loop-lane) c.loop-lane-test.true (short (goal.at.settle-q-requires c).In-loop-lane)

pub loop-lane-preserved : goal.loop-lane-preserved
unfolding settle_lanes
loop-lane-preserved c =
    let start = c.log_start-a in
    let loop = c.loop-lane in
    let a = c.args in (
      search rules,
      (
        omega (arith, loop.invariant.1.0),
        rw add-one
            (part_settled a.size a.rack loop.logs loop.q loop.lane (2 * start.result) (2 * start.result + 2 * a.size.rounds - 2 * start.result)
            (ap (λ (x : ℕ). 2 * x) start.ensures) (omega arith) (lent (goal.at.loop-lane-preserved c).In-loop-lane) c.loop-lane-test.true (short (goal.at.loop-lane-preserved c).In-loop-lane) c.settle-q.ensures
            ∙ ap (λ (x : Settled). settle_lane a.size a.rack x.logs x.rack loop.lane) loop.invariant.1.1),
      ),
    )
