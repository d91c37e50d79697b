-- The sum is the text of `decision_index`; by `row_small` it is small.
use native.Mathlib.Omega.{arith}
use Rattle.model.specs.Table.{decision_index}
use Rattle.step.proofs.Places.{row_small}
use borrow.Author.Rules.{rules}
use Rattle.step.proofs.decision_index.Goals as goal

pub overflow_mul-result : goal.overflow_mul-result
overflow_mul-result c = omega (arith, row_small c.requires.0 c.args.lane c.requires.1)

pub overflow_add-result : goal.overflow_add-result
overflow_add-result c = omega (arith, row_small c.requires.0 c.args.lane c.requires.1)

pub returns : goal.returns
unfolding decision_index
returns c = search rules
