-- The test of each record.
use mathlib.Core.Path.{ap, ◌∙◌}
use Prim.Native.Nat.{ℕ, ◌+◌, ◌*◌}
use borrow.Author.Rules.{rules}
use Rattle.std.proofs.iter.Serving.{serving}
use Rattle.laws.specs.Below.{below}
use Rattle.model.specs.Size.{records}
use Rattle.model.specs.InUse.{cells_of}
use Rattle.model.specs.Table.{section_of}
use Rattle.model.specs.Sound.{sound_record, sound_section}
use Rattle.laws.proofs.Each.{all_from}
use Rattle.sound.proofs.Sizes.{small, section_inside}
use Rattle.sound.proofs.tables.sound_section.Goals as goal

pub all-requires-clause-callable : goal.all-requires-clause-callable
all-requires-clause-callable c = grind (serving, small, section_inside)

pub returns : goal.returns
unfolding sound_section
returns c =
    let a = c.args in
    let n = records a.size in
    let test = sound_record a.size (cells_of a.cells.now) (section_of a.section) in
    all_from test (c.index.result * n) n c.all.ensures.ran (λ x b q k. search rules) ∙ ap (λ (k : ℕ). below n (λ i. test (k * n + i))) c.index.ensures
