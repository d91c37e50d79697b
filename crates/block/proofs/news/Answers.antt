-- The two walks are the definition's, over the cells read.
use Rattle.std.proofs.Common.{rules}
use Rattle.model.specs.Block.{news}
use Rattle.block.proofs.Read.{newest_is}
use Rattle.block.proofs.news.Goals as goal

pub returns : goal.returns
unfolding news
returns c =
    let a = c.args in
    rw (c.newest-last.ensures, c.newest-first.ensures, newest_is a.seconds.now, newest_is a.firsts.now) (search rules)
