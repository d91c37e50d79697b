-- What a call on one spot of the cell table asks for: a size in its ranges, a table of exactly its length, and a spot that is there.
use Rattle.std.specs.Prelude.{◌≡◌, List, true, ℕ, length}
use Rattle.model.specs.declared.Size.{Size}
use Rattle.model.specs.Size.{size_fits}
use Rattle.model.specs.InUse.{cells_length}
use Rattle.model.proofs.Table.{Spot}

pub record Here (s : Size) (cells : List ℕ) (section round lane rack : ℕ) : Type 0 where
  pub size : size_fits s ≡ true
  pub exact : length cells ≡ cells_length s
  pub spot : Spot s section round lane rack
