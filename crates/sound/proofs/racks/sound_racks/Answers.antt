-- The test of each rack.
use borrow.Author.Rules.{rules}
use Rattle.model.specs.InUse.{tables_of}
use Rattle.model.specs.Table.{no_rack}
use Rattle.model.specs.Sound.{sound_state, sound_racks}
use Rattle.laws.proofs.Each.{all_counted}
use Rattle.sound.proofs.racks.sound_racks.Goals as goal

pub returns : goal.returns
unfolding sound_racks
returns c =
    let a = c.args in
    let t = tables_of a.cells.now a.logs.now a.decisions.now in
    all_counted (sound_state a.size t) no_rack a.racks 8 (search rules) (search rules) (search rules) c.all.ensures.ran (λ x b q k. search rules)
