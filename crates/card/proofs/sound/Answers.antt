-- The two tests on the way are those of `soundness`, in its order.
use mathlib.Core.Path.{◌≡◌, sym, ◌∙◌}
use mathlib.Core.Bool.{true}
use Rattle.model.specs.InUse.{tables_of}
use Rattle.model.specs.Table.{Tables}
use Rattle.model.specs.Turn.{fits, soundness}
use Rattle.sizes.specs.Lengths.{lengths_fit}
use Rattle.model.proofs.Sizes.{fits_exact}
use Rattle.card.proofs.sound.Goals as goal
use Rattle.card.proofs.sound.Goals.{Else-not-lengths_fit}

abbrev tables : Else-not-lengths_fit → Tables
tables c =
    let a = c.args in
    tables_of a.cells.now a.logs.now a.decisions.now

fitting : (c : Else-not-lengths_fit) → fits c.args.size (tables c) ≡ true
unfolding fits lengths_fit
fitting c = sym c.lengths_fit.ensures ∙ c.if-not-lengths_fit.false

pub returns-then-not-lengths_fit : goal.returns-then-not-lengths_fit
unfolding soundness fits lengths_fit
returns-then-not-lengths_fit c = rw (sym c.lengths_fit.ensures ∙ c.if-not-lengths_fit.true)

pub sound-requires : goal.sound-requires
sound-requires c = fits_exact _ _ (fitting (goal.at.sound-requires c).Else-not-lengths_fit)

pub returns-then-not-sound : goal.returns-then-not-sound
unfolding soundness
returns-then-not-sound c = rw (fitting (goal.at.returns-then-not-sound c).Else-not-lengths_fit, sym c.sound.ensures ∙ c.if-not-sound.true)

pub returns : goal.returns
unfolding soundness
returns c = rw (fitting (goal.at.returns c).Else-not-lengths_fit, sym c.sound.ensures ∙ c.if-not-sound.false)
