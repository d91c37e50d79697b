-- The test of each cell.
use mathlib.Core.Bool.{cond}
use borrow.Author.Rules.{rules}
use lib.Dec.{ltb}
use Rattle.model.specs.Record.{no_cell, same_cell}
use Rattle.model.specs.Table.{section_of}
use Rattle.model.specs.Sound.{sound_cell}
use Rattle.laws.proofs.Each.{all_counted}
use Rattle.sound.proofs.racks.sound_gathered_cells.Goals as goal

pub returns : goal.returns
returns c =
    let a = c.args in
    all_counted (λ i x. cond (ltb i a.read) (sound_cell a.size (section_of a.section) x) (same_cell x no_cell)) no_cell a.gathered 8
    (search rules) (search rules) (search rules) c.all.ensures.ran (λ x b q k. search rules)
