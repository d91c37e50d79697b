-- The invariant: the lines of the entries passed are written, each at most 128 bytes.
use Rattle.model.specs.InUse.{logs_of}
use Rattle.tell.proofs.Logs.{EntriesTo}
use Rattle.tell.proofs.tell_entries.Given as goal

abbrev pub invariant-loop-place : goal.invariant-loop-place
invariant-loop-place l = EntriesTo l.lanes l.lists (logs_of l.logs) l.start l.lane l.at l.initial.out l.place (record { bytes = l.out; place = l.end })
