-- A place that is there lies in its log, and the log in the table.
use native.Mathlib.Omega.{arith}
use Rattle.model.specs.Logs.{is_there}
use Rattle.model.proofs.Start.{log_fits}
use Rattle.model.proofs.Length.{length_most}
use Rattle.sizes.specs.Lengths.{logs_fit}
use Rattle.entry.proofs.log_entry.Goals as goal

pub entry-requires : goal.entry-requires
unfolding is_there logs_fit
entry-requires c = grind (arith, log_fits, length_most)
