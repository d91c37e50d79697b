-- The byte written is the decision of the rack's round and the lane.
use native.Mathlib.Omega.{arith}
use Rattle.step.proofs.Places.{step_small, decision_there}
use Rattle.step.proofs.answer.Goals as goal

pub bounds-decisions-i : goal.bounds-decisions-i
bounds-decisions-i c = decision_there c.requires _ c.decision_index-i.ensures

pub advanced-requires : goal.advanced-requires
advanced-requires c = omega (arith, step_small c.requires.round)
