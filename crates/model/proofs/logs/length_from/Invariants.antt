-- The invariant: the length is the records passed, and the length from there on.
use Prim.Native.Nat.{◌+◌, ◌-◌, ◌≤◌}
use mathlib.Core.Path.{◌≡◌}
use Rattle.model.specs.Table.{length_from}
use Rattle.model.specs.InUse.{logs_of}
use Rattle.model.proofs.logs.length_from.Given as goal

abbrev pub invariant-loop-i : goal.invariant-loop-i
invariant-loop-i l = (l.i ≤ l.most) × (length_from (logs_of l.table) l.at l.most ≡ l.i + length_from (logs_of l.table) (l.at + l.i) (l.most - l.i))

abbrev pub decreases-loop-i : goal.decreases-loop-i
decreases-loop-i l = l.most - l.i
