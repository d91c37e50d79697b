-- Eight stores in a row are the run of stores of `stored`.
use Rattle.model.specs.Form.{stored}
use Rattle.cells.proofs.Offsets.{at1, at2, at3, at4, at5, at6, at7}
use Rattle.cells.proofs.store.Goals as goal

pub returns : goal.returns
unfolding stored
returns c = simp (at1, at2, at3, at4, at5, at6, at7)
