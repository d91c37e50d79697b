-- One part behind the other, with the room that the parts before leave.
use mathlib.Core.Path.{ap, ◌∙◌}
use native.Mathlib.Omega.{arith}
use Rattle.text.specs.Written.{write}
use Rattle.text.proofs.Written.{behind}
use Rattle.text.proofs.Lines.{ended_moved, entry_parts}
use Rattle.text.proofs.entry_line.Goals as goal

pub ended-b-requires : goal.ended-b-requires
ended-b-requires c = omega (arith, ended_moved _ _ _ _ c.ended-a.ensures (omega arith))

pub ended-c-requires : goal.ended-c-requires
ended-c-requires c = omega (arith, ended_moved _ _ _ _ c.ended-a.ensures (omega arith), ended_moved _ _ _ _ c.ended-b.ensures (omega arith))

pub ended-requires : goal.ended-requires
ended-requires c =
    omega (
      arith,
      ended_moved _ _ _ _ c.ended-a.ensures (omega arith),
      ended_moved _ _ _ _ c.ended-b.ensures (omega arith),
      ended_moved _ _ _ _ c.ended-c.ensures (omega arith),
    )

pub returns : goal.returns
returns c =
    let to-b = behind _ _ _ _ c.ended-a.ensures c.ended-b.ensures in
    let to-d = behind _ _ _ _ to-b c.ended-c.ensures in
    behind _ _ _ _ to-d c.ended.ensures ∙ ap (write _ _) (entry_parts _ _ _ _)
