-- Two stores, one after the other, are the definition's run of stores.
use native.Mathlib.Numerals.{add-one}
use Rattle.model.specs.Form.{stored}
use Rattle.model.proofs.logs.store.Goals as goal

pub returns : goal.returns
unfolding stored
returns c = simp add-one
