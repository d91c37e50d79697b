-- What `find` gives, over the cells read.
use Rattle.std.proofs.Common.{rules, tests, ◌∙◌}
use Rattle.std.proofs.lemmas.Iterator.{YieldsList-from_slice}
use Rattle.std.proofs.lemmas.Iterator.Search.{find_from_yields_List}
use Rattle.model.specs.Record.{is_committed}
use Rattle.block.proofs.first_committed.Goals as goal

pub returns : goal.returns
returns c =
    c.copied.ensures
    ∙ find_from_yields_List is_committed _ _ _ c.find.ensures.ran (YieldsList-from_slice c.args.seconds.now cc) (λ x b q k. search (rules, tests))
