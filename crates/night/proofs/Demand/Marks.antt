-- The cell of a mark and a value shows both.
use mathlib.Core.Path.{◌≡◌}
use Rattle.laws.proofs.Cases.{either, bool}
use Rattle.model.specs.Record.{is_committed}
use Rattle.protocol.specs.AdoptCommit.{Marked}
use Rattle.night.specs.View.{marked_cell}

pub marked_committed : (m : Marked) → is_committed (marked_cell m) ≡ m.committed
marked_committed m = either (bool m.committed) (λ t. rw t) (λ f. rw f)

pub marked_value : (m : Marked) → (marked_cell m).value ≡ m.value
marked_value m = either (bool m.committed) (λ t. rw t) (λ f. rw f)
