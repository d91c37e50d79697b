-- The cell found is the first committed one.
use Rattle.std.proofs.Common.{sym, ◌∙◌}
use Rattle.block.proofs.Read.{adopted_some, adopted_none}
use Rattle.block.proofs.adopted_value.Goals as goal

pub returns-in-Some : goal.returns-in-Some
returns-in-Some c =
    let a = c.args in
    sym (adopted_some a.seconds.now a.second c.in-Some.c (sym c.first_committed.ensures ∙ c.in-Some.is))

pub returns-in-None : goal.returns-in-None
returns-in-None c =
    let a = c.args in
    sym (adopted_none a.seconds.now a.second (sym c.first_committed.ensures ∙ c.in-None.is))
