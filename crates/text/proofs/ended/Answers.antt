-- The number's text, and one byte stored behind it.
use native.Mathlib.Omega.{arith}
use borrow.Author.Rules.{rules}
use Rattle.text.specs.Lines.{ended}
use Rattle.text.proofs.Digits.{decimal_most}
use Rattle.text.proofs.Written.{behind, moved, one_byte}
use Rattle.text.proofs.ended.Goals as goal

pub bounds-out-behind : goal.bounds-out-behind
bounds-out-behind c =
    let x = c.args.x in
    omega (arith, moved _ _ _ c.decimal-behind.ensures (decimal_most x (omega arith)))

pub overflow_add-result : goal.overflow_add-result
overflow_add-result c =
    let x = c.args.x in
    let m = moved _ _ _ c.decimal-behind.ensures (decimal_most x (omega arith)) in
    search rules

pub returns : goal.returns
unfolding ended
returns c = behind _ _ _ _ c.decimal-behind.ensures (one_byte _ _ _)
