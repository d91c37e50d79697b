-- A count is 0, or one more than the last record's place.
use mathlib.Core.Path.{sym, ◌∙◌}
use borrow.Author.Rules.{rules}
use Rattle.model.specs.Settle.{last_entry}
use Rattle.model.proofs.Length.{last_there}
use Rattle.model.proofs.logs.last_entry.Goals as goal

pub returns-then-count-eq0 : goal.returns-then-count-eq0
unfolding last_entry
returns-then-count-eq0 c = rw (c.if-count-eq0.true) (search rules)

pub returns : goal.returns
returns c = c.entry.ensures ∙ sym (last_there _ _ _ c.if-count-eq0.false)
