-- The six bytes read are those of the record.
use lib.Seq.{get_or-drop}
use native.Mathlib.Nat.{add-zero}
use Rattle.model.specs.Form.{record_at}
use Rattle.cells.proofs.load.Goals as goal

pub returns : goal.returns
unfolding record_at
returns c = simp (get_or-drop, add-zero)
