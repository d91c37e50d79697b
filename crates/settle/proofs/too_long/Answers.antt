-- The test of every lane.
use Rattle.std.proofs.Common.{rules, ap, not}
use Rattle.laws.proofs.Each.{all_range}
use Rattle.model.specs.Settle.{too_long}
use Rattle.settle.proofs.too_long.Goals as goal

pub returns : goal.returns
unfolding too_long
returns c = ap not (all_range _ c.args.size.lanes c.all.ensures.ran (λ x b q k. search rules))
