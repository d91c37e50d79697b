-- Where a step's cells and decisions stand: within their tables.
use mathlib.Core.Path.{◌≡◌}
use mathlib.Core.List.{List}
use Prim.Native.Nat.{ℕ, ◌+◌, ◌*◌, ◌-◌, ◌≤◌, ◌<◌}
use native.Mathlib.Omega.{arith}
use lib.ListN.{length}
use Rattle.model.specs.declared.Size.{Size}
use Rattle.model.specs.declared.Rack.{Rack}
use Rattle.model.specs.Kind.{lane_at}
use Rattle.model.specs.Table.{decision_index}
use Rattle.model.proofs.Sizes.{sizes, rows_most}
use Rattle.model.proofs.Table.{row_below, decision_fits}
use Rattle.cells.specs.Here.{Here}
use Rattle.kind.proofs.Places.{lane_at_below, round_steps_most}
use Rattle.step.specs.Ready.{InRound, AtCells, InBlock, AtDecisions}

pub racks_few : {s : Size} {r : Rack} → InRound s r → s.racks ≤ 8
racks_few {s} a = (sizes s a.size).racks_high

pub lanes_few : {s : Size} {r : Rack} → InRound s r → s.lanes ≤ 4
lanes_few {s} a = (sizes s a.size).lanes_high

-- a round has at most 74 steps
pub step_small : {s : Size} {r : Rack} → InRound s r → r.step < 74
step_small {s} a =
    let z = sizes s a.size in
    omega (arith, a.step_below, round_steps_most s z.racks_high z.lanes_high)

pub round_small : {s : Size} {r : Rack} → InRound s r → r.round ≤ 64
round_small {s} a = omega (arith, a.round_high, (sizes s a.size).rounds_high)

-- a cell of the rack's present round
pub here : {s : Size} {cells : List ℕ} {rack : ℕ} {r : Rack} → AtCells s cells rack r
    → (section lane other : ℕ) → section < 3 → lane < s.lanes → other < s.racks → Here s cells section r.round lane other
here a section lane other b l o =
    record {
      size = a.round.size;
      exact = a.exact;
      spot =
          record {
            section_there = b;
            round_low = a.round.round_low;
            round_high = a.round.round_high;
            lane_there = l;
            rack_there = o;
          };
    }

pub first_lane : {s : Size} {r : Rack} → InRound s r → 0 < s.lanes
first_lane {s} a = (sizes s a.size).lanes_low

-- the lane of the rack's present block
pub lane_there : {s : Size} {cells : List ℕ} {rack : ℕ} {r : Rack} → InBlock s cells rack r → (lane : ℕ) → lane ≡ lane_at s r → lane < s.lanes
lane_there {s} {r = r} b lane e =
    let a = b.at.round in
    rw e (lane_at_below s r.first r.step (sizes s a.size).lanes_low b.first_there a.step_below)

-- at most four lanes
pub lane_few : {s : Size} {cells : List ℕ} {rack : ℕ} {r : Rack} → InBlock s cells rack r → (lane : ℕ) → lane ≡ lane_at s r → lane < 4
lane_few {s} b lane e = omega (arith, lane_there b lane e, (sizes s b.at.round.size).lanes_high)

-- a cell of that lane
pub block_here : {s : Size} {cells : List ℕ} {rack : ℕ} {r : Rack} → InBlock s cells rack r
    → (section lane other : ℕ) → section < 3 → lane ≡ lane_at s r → other < s.racks → Here s cells section r.round lane other
block_here b section lane other h e o = here b.at section lane other h (lane_there b lane e) o

-- the row of a decision of the rack's present round
pub row_small : {s : Size} {r : Rack} → InRound s r → (lane : ℕ) → lane < s.lanes → (r.round - 1) * s.lanes + lane < 256
row_small {s} {r} a lane l =
    omega (arith, row_below s r.round lane a.round_low a.round_high l, rows_most s (sizes s a.size))

pub decision_there : {s : Size} {decisions : List ℕ} {r : Rack} {lane : ℕ} → AtDecisions s decisions r lane
    → (i : ℕ) → i ≡ decision_index s r.round lane → i < length decisions
decision_there {s} {r = r} {lane} a i e =
    rw (e, a.exact) (decision_fits s r.round lane a.round.round_low a.round.round_high a.lane_there)
