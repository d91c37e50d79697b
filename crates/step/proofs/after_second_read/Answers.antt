-- The test on the way is the definition's own: the cell read is the last rack's.
use native.Mathlib.Omega.{arith}
use borrow.Author.Tests.{eq-eqb, ne_eqb}
use Rattle.model.specs.Step.{after_second_read}
use Rattle.kind.proofs.Places.{second_read_place}
use Rattle.step.proofs.Places.{racks_few}
use Rattle.step.proofs.after_second_read.Goals as goal

pub place_at-requires : goal.place_at-requires
place_at-requires c = racks_few c.requires.0.at.round

pub overflow_add-other : goal.overflow_add-other
overflow_add-other c = omega (arith, racks_few c.requires.0.at.round)

pub overflow_sub-other : goal.overflow_sub-other
overflow_sub-other c = omega (arith, second_read_place _ _ c.requires.1)

pub returns-then-other-size : goal.returns-then-other-size
unfolding after_second_read
returns-then-other-size c = rw (c.block_ended.ensures, c.second_gathered-gathered.ensures, ← c.place_at.ensures, eq-eqb _ _ c.if-other-size.true)

pub returns : goal.returns
unfolding after_second_read
returns c = rw (c.second_gathered-gathered.ensures, ← c.place_at.ensures, ne_eqb _ _ c.if-other-size.false)
