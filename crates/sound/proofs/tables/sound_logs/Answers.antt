-- The test of each rack's logs.
use borrow.Author.Rules.{rules}
use Rattle.model.specs.Sound.{sound_logs}
use Rattle.laws.proofs.Each.{all_range}
use Rattle.sound.proofs.tables.sound_logs.Goals as goal

pub returns : goal.returns
unfolding sound_logs
returns c = all_range _ c.args.size.racks c.all.ensures.ran (λ x b q k. search rules)
