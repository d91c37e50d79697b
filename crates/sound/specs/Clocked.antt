-- What the test of a rack's cells asks of its caller: a size in its ranges, a cell table of exactly its length, and that the rack's clock and
-- first lane have been tested, so that every cell looked at is there.
use Rattle.std.specs.Prelude.{◌≡◌, List, true, ℕ, length}
use Rattle.model.specs.declared.Size.{Size}
use Rattle.model.specs.declared.Rack.{Rack}
use Rattle.model.specs.Size.{size_fits}
use Rattle.model.specs.InUse.{cells_length}
use Rattle.model.specs.Sound.{sound_clock, sound_first}

pub record Clocked (s : Size) (cells : List ℕ) (r : Rack) : Type 0 where
  pub size : size_fits s ≡ true
  pub exact : length cells ≡ cells_length s
  pub clock : sound_clock s r ≡ true
  pub first_lane : sound_first s r ≡ true
