-- The invariant: the table and the rack are what the lanes so far leave. So each lane has room when its turn comes.
use lib.ListN.{length}
use mathlib.Core.Path.{◌≡◌}
use Prim.Native.Nat.{◌≤◌}
use Rattle.model.specs.InUse.{logs_of}
use Rattle.model.specs.Settle.{Settled, settle_lanes}
use Rattle.settle.proofs.settle_lanes.Given as goal

abbrev pub invariant-loop-lane : goal.invariant-loop-lane
invariant-loop-lane l = (l.lane ≤ l.size.lanes)
    × ((length l.logs ≡ length l.initial.logs)
    × (◌≡◌ {A = Settled} (record { logs = logs_of l.logs; rack = l.q }) (settle_lanes l.size l.rack (logs_of l.initial.logs) l.initial.q l.lane)))
