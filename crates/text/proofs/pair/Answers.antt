-- Two stores, one after the other, are the text of two digits.
use native.Mathlib.Numerals.{add-one}
use native.Mathlib.Omega.{arith}
use lib.ListN.{length-set}
use Rattle.text.specs.Written.{write}
use Rattle.text.proofs.pair.Goals as goal

pub bounds-out-at-2 : goal.bounds-out-at-2
bounds-out-at-2 c = simp length-set (omega arith)

pub returns : goal.returns
unfolding write
returns c = simp (c.digit-2.ensures, c.digit.ensures, add-one)
