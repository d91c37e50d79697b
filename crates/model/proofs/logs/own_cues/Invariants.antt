-- The invariant: the count among the records passed, which is at most as many as they are.
use Prim.Native.Nat.{◌≤◌}
use mathlib.Core.Path.{◌≡◌}
use Rattle.model.specs.Settle.{own_cues}
use Rattle.model.specs.InUse.{logs_of}
use Rattle.model.proofs.logs.own_cues.Given as goal

abbrev pub invariant-loop-i : goal.invariant-loop-i
invariant-loop-i l = (l.i ≤ l.count) × (l.own ≡ own_cues (logs_of l.table) l.start l.rack l.i)
