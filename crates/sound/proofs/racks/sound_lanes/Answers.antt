-- The test of each lane.
use borrow.Author.Rules.{rules}
use Rattle.model.specs.InUse.{cells_of, logs_of}
use Rattle.model.specs.Sound.{sound_lane}
use Rattle.laws.proofs.Each.{all_range}
use Rattle.sound.proofs.racks.sound_lanes.Goals as goal

pub returns : goal.returns
returns c =
    let a = c.args in
    all_range (sound_lane a.size (cells_of a.cells.now) (logs_of a.logs.now) a.rack a.r) 4 c.all.ensures.ran (λ x b q k. search rules)
