-- The index is `decision_index`, which lies in the table.
use Rattle.step.proofs.Places.{decision_there}
use Rattle.step.proofs.decision_at.Goals as goal

pub bounds-decisions-i : goal.bounds-decisions-i
bounds-decisions-i c = decision_there c.requires _ c.decision_index-i.ensures
