-- Past tests 1 and 2 the inner turn has the same promise.
use borrow.Author.Rules.{rules}
use Rattle.card.proofs.Tests.{playable}
use Rattle.card.proofs.turn.Goals as goal

pub play-requires : goal.play-requires
play-requires c = search (rules, playable)
