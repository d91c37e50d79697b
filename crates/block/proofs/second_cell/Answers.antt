-- The test and the value are the definition's, over the cells read.
use Rattle.model.specs.Block.{second_cell}
use Rattle.block.proofs.Read.{all_equal_own_is, greatest_is}
use Rattle.block.proofs.second_cell.Goals as goal

pub returns-then-all_equal_own : goal.returns-then-all_equal_own
unfolding second_cell
returns-then-all_equal_own c =
    let a = c.args in
    rw (c.committed.ensures, ← all_equal_own_is a.firsts.now a.own, ← c.all_equal_own.ensures, c.if-all_equal_own.true)

pub returns-else-all_equal_own : goal.returns-else-all_equal_own
unfolding second_cell
returns-else-all_equal_own c =
    let a = c.args in
    rw (
      c.adopted.ensures,
      c.greatest.ensures,
      ← greatest_is a.firsts.now a.own,
      ← all_equal_own_is a.firsts.now a.own,
      ← c.all_equal_own.ensures,
      c.if-all_equal_own.false,
    )
