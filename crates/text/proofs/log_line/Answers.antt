-- One part behind the other, with the room that the parts before leave.
use mathlib.Core.Path.{ap, ◌∙◌}
use native.Mathlib.Omega.{arith}
use Rattle.text.specs.Written.{write}
use Rattle.text.proofs.Written.{behind}
use Rattle.text.proofs.Lines.{ended_moved, named_moved, log_parts}
use Rattle.text.proofs.log_line.Goals as goal

pub ended-b-requires : goal.ended-b-requires
ended-b-requires c = omega (arith, named_moved _ _ _ _ _ c.named-a.ensures (omega arith))

pub named-c-requires : goal.named-c-requires
named-c-requires c = omega (arith, named_moved _ _ _ _ _ c.named-a.ensures (omega arith), ended_moved _ _ _ _ c.ended-b.ensures (omega arith))

pub named-requires : goal.named-requires
named-requires c =
    omega (
      arith,
      named_moved _ _ _ _ _ c.named-a.ensures (omega arith),
      ended_moved _ _ _ _ c.ended-b.ensures (omega arith),
      named_moved _ _ _ _ _ c.named-c.ensures (omega arith),
    )

pub returns : goal.returns
returns c =
    let to-b = behind _ _ _ _ c.named-a.ensures c.ended-b.ensures in
    let to-d = behind _ _ _ _ to-b c.named-c.ensures in
    behind _ _ _ _ to-d c.named.ensures ∙ ap (write _ _) (log_parts _ _ _ _)
