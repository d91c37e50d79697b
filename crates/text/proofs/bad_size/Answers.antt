-- The word is the line.
use Rattle.model.specs.Sheet.{bad_size_line}
use Rattle.text.proofs.bad_size.Goals as goal

pub returns : goal.returns
unfolding bad_size_line
returns c = c.word.ensures
