-- The line is one word and one number.
use mathlib.Core.Path.{ap, ◌∙◌}
use Rattle.text.specs.Written.{write}
use Rattle.text.proofs.Lines.{bad_cues_parts}
use Rattle.text.proofs.bad_cues.Goals as goal

pub returns : goal.returns
returns c = c.named.ensures ∙ ap (write _ _) (bad_cues_parts _)
