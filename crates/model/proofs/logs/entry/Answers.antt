-- The record by its two bytes.
use lib.Seq.{get_or-drop}
use native.Mathlib.Nat.{add-zero}
use Rattle.model.specs.Form.{record_at}
use Rattle.model.proofs.logs.entry.Goals as goal

pub returns : goal.returns
unfolding record_at
returns c = simp (get_or-drop, add-zero)
