-- The word's text, and behind it the number's.
use native.Mathlib.Omega.{arith}
use native.Mathlib.Nat.{le_refl}
use Rattle.text.specs.Lines.{named}
use Rattle.text.proofs.Written.{behind, moved}
use Rattle.text.proofs.named.Goals as goal

pub ended-requires : goal.ended-requires
ended-requires c = omega (arith, moved _ _ _ c.word-behind.ensures (le_refl _))

pub returns : goal.returns
unfolding named
returns c = behind _ _ _ _ c.word-behind.ensures c.ended.ensures
