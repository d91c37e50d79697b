-- One part behind the other, with the room that the parts before leave.
use mathlib.Core.Path.{ap, ◌∙◌}
use native.Mathlib.Omega.{arith}
use Rattle.text.specs.Written.{write}
use Rattle.text.proofs.Written.{behind}
use Rattle.text.proofs.Lines.{named_moved, refused_parts}
use Rattle.text.proofs.refused_line.Goals as goal

pub ended-requires : goal.ended-requires
ended-requires c = omega (arith, named_moved _ _ _ _ _ c.named-a.ensures (omega arith))

pub returns : goal.returns
returns c = behind _ _ _ _ c.named-a.ensures c.ended.ensures ∙ ap (write _ _) (refused_parts _ _)
