-- The invariant: the records before the place are added, and what is left to add gives the whole.
use Prim.Native.Nat.{◌-◌}
use lib.ListN.{length}
use Rattle.tell.proofs.Cues.{Adding}
use Rattle.tell.proofs.tell_cues.Given as goal

abbrev pub invariant-loop-at : goal.invariant-loop-at
invariant-loop-at l = Adding l.racks l.lanes l.bytes l.initial.lists l.lists l.index l.at

abbrev pub decreases-loop-at : goal.decreases-loop-at
decreases-loop-at l = length l.bytes - l.at
