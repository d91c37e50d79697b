-- The test of each decision.
use mathlib.Core.Bool.{◌||◌}
use borrow.Author.Rules.{rules}
use lib.Dec.{eqb, ltb}
use Rattle.model.specs.Size.{decisions_length}
use Rattle.model.specs.Table.{undecided}
use Rattle.model.specs.Sound.{sound_decisions}
use Rattle.laws.proofs.Each.{all_in}
use Rattle.sound.proofs.tables.sound_decisions.Goals as goal

pub returns : goal.returns
unfolding sound_decisions decisions_length
returns c =
    let n = c.args.size.racks in
    all_in (λ source. eqb source undecided || ltb source n) 0 _ _ c.requires.1 (search rules) c.all.ensures.ran (λ x b q k. search rules)
