-- One part behind the other, with the room that the parts before leave.
use mathlib.Core.Path.{ap, ◌∙◌}
use native.Mathlib.Omega.{arith}
use Rattle.text.specs.Written.{write}
use Rattle.text.proofs.Written.{behind}
use Rattle.text.proofs.Lines.{named_moved, size_parts}
use Rattle.text.proofs.size_line.Goals as goal

pub named-b-requires : goal.named-b-requires
named-b-requires c = omega (arith, named_moved _ _ _ _ _ c.named-a.ensures (omega arith))

pub named-requires : goal.named-requires
named-requires c = omega (arith, named_moved _ _ _ _ _ c.named-a.ensures (omega arith), named_moved _ _ _ _ _ c.named-b.ensures (omega arith))

pub returns : goal.returns
returns c =
    let to-b = behind _ _ _ _ c.named-a.ensures c.named-b.ensures in
    behind _ _ _ _ to-b c.named.ensures ∙ ap (write _ _) (size_parts _)
