-- The test and the value are the definition's, over the cells read.
use Rattle.model.specs.Block.{result_of}
use Rattle.block.proofs.Read.{all_back_own_is}
use Rattle.block.proofs.result.Goals as goal

pub returns-then-all_back_own : goal.returns-then-all_back_own
unfolding result_of
returns-then-all_back_own c =
    let a = c.args in
    rw (c.committed.ensures, ← all_back_own_is a.seconds.now a.own, ← c.all_back_own.ensures, c.if-all_back_own.true)

pub returns-else-all_back_own : goal.returns-else-all_back_own
unfolding result_of
returns-else-all_back_own c =
    let a = c.args in
    rw (c.adopted.ensures, c.adopted_value.ensures, ← all_back_own_is a.seconds.now a.own, ← c.all_back_own.ensures, c.if-all_back_own.false)
