-- From 100 on a number is its front, which the call writes, and its last two digits.
use mathlib.Core.Path.{sym, ap, ◌∙◌}
use Prim.Native.Nat.{◌/◌}
use native.Mathlib.Omega.{arith}
use Rattle.laws.specs.Text.{decimal}
use Rattle.text.specs.Written.{write}
use Rattle.text.proofs.Digits.{decimal_hundred, front_most}
use Rattle.text.proofs.Written.{behind, moved}
use Rattle.text.proofs.+decimal.Goals as goal

pub pair-requires : goal.pair-requires
pair-requires t c =
    let x = c.args.x in
    omega (arith, moved _ _ (decimal (x / 100)) c.decimal-end.ensures (front_most x (omega arith)))

pub returns : goal.returns
returns t c =
    let x = c.args.x in
    behind _ _ _ _ c.decimal-end.ensures c.pair.ensures ∙ ap (write _ _) (sym (decimal_hundred x (omega arith)))
