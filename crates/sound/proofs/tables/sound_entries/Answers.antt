-- The test of each record.
use borrow.Author.Rules.{rules}
use Rattle.model.specs.Sound.{sound_entries}
use Rattle.laws.proofs.Each.{all_range}
use Rattle.sound.proofs.tables.sound_entries.Goals as goal

pub returns : goal.returns
unfolding sound_entries
returns c = all_range _ c.args.size.rounds c.all.ensures.ran (λ x b q k. search rules)
