-- A number below 10 is its one digit, and one from 10 to 99 both.
use mathlib.Core.Path.{sym, ap, ◌∙◌}
use native.Mathlib.Omega.{arith}
use Rattle.text.specs.Written.{write}
use Rattle.text.proofs.Digits.{decimal_less, decimal_pair}
use Rattle.text.proofs.short.Goals as goal

pub returns-then-x-lt10 : goal.returns-then-x-lt10
unfolding write
returns-then-x-lt10 c = rw (c.digit.ensures, decimal_less _ c.if-x-lt10.true)

pub returns : goal.returns
returns c =
    let x = c.args.x in
    c.pair.ensures ∙ ap (write _ _) (sym (decimal_pair x (omega arith) (omega arith)))
