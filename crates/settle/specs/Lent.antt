-- What the functions require.
use Rattle.std.specs.Prelude.{◌≡◌, List, true, false, ℕ, ◌+◌, ◌*◌, ◌≤◌, ◌<◌, length}
use Rattle.model.specs.declared.Size.{Size}
use Rattle.model.specs.declared.Rack.{Rack}
use Rattle.model.specs.Size.{most_rounds, size_fits}
use Rattle.model.specs.InUse.{entry_form, logs_of, logs_length}
use Rattle.model.specs.Settle.{too_long}

-- so many records from a log's start on lie within the table
pub record Room (logs : List ℕ) (start most : ℕ) : Type 0 where
  pub inside : entry_form.width * (start + most) ≤ length logs
  pub few : most ≤ most_rounds

-- a whole log table is lent, and the rack is there
pub record Lent (s : Size) (logs : List ℕ) (rack : ℕ) : Type 0 where
  pub sizes : size_fits s ≡ true
  pub exact : length logs ≡ logs_length s
  pub rack_there : rack < s.racks

-- and every lane's log has room for what settling appends
pub record LanesLent (s : Size) (logs : List ℕ) (rack : ℕ) (r : Rack) : Type 0 where
  pub lent : Lent s logs rack
  pub room : too_long s rack (logs_of logs) r ≡ false
