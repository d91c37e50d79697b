-- The test of each lane.
use borrow.Author.Rules.{rules}
use Rattle.model.specs.Sound.{unused_lane}
use Rattle.laws.proofs.Each.{all_range}
use Rattle.sound.proofs.racks.unused_lanes.Goals as goal

pub returns : goal.returns
returns c = all_range (unused_lane c.args.r) 4 c.all.ensures.ran (λ x b q k. search rules)
