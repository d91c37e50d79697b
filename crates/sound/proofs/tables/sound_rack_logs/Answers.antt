-- The test of each lane.
use borrow.Author.Rules.{rules}
use Rattle.laws.proofs.Each.{all_range}
use Rattle.sound.proofs.tables.sound_rack_logs.Goals as goal

pub returns : goal.returns
returns c = all_range _ c.args.size.lanes c.all.ensures.ran (λ x b q k. search rules)
