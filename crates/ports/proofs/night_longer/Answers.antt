-- The two tests are those of `which_longer`.
use mathlib.Core.Path.{sym, ◌∙◌}
use borrow.Author.Tests.{lt-ltb, le-ltb}
use Rattle.model.specs.Logs.{longer}
use Rattle.ports.specs.Told.{which_longer}
use Rattle.ports.proofs.night_longer.Goals as goal

pub returns-then-not-agree : goal.returns-then-not-agree
unfolding longer which_longer
returns-then-not-agree c = rw (sym c.agree.ensures ∙ c.if-not-agree.true)

pub returns-then-a-b : goal.returns-then-a-b
unfolding which_longer
returns-then-a-b c = rw (c.longer-length.ensures.0, sym c.agree.ensures ∙ c.if-not-agree.false, lt-ltb _ _ c.if-a-b.true)

pub returns : goal.returns
unfolding which_longer
returns c = rw (c.longer-length.ensures.0, sym c.agree.ensures ∙ c.if-not-agree.false, le-ltb _ _ c.if-a-b.false)
