-- What a step requires.
use Rattle.std.specs.Prelude.{◌≡◌, List, true, false, ℕ, ◌≤◌, ◌<◌, length}
use Rattle.model.specs.declared.Size.{Size}
use Rattle.model.specs.declared.Rack.{Rack}
use Rattle.model.specs.Size.{size_fits, decisions_length, leading, round_steps}
use Rattle.model.specs.InUse.{cells_length, logs_length, cells_of, logs_of}
use Rattle.model.specs.declared.Kind.TheVariants.{SecondRead}
use Rattle.model.specs.Table.{Tables, decision_at}
use Rattle.model.specs.Kind.{kind_of}
use Rattle.model.specs.Settle.{too_long}
use Rattle.model.specs.Step.{after_second_read, is_last}
use Rattle.model.proofs.Sizes.{Exact}

-- what tests 1 to 3 establish of a rack and the tables that a step uses, also after its last round
pub record Tested (s : Size) (t : Tables) (rack : ℕ) (r : Rack) : Type 0 where
  pub exact : Exact s t
  pub rack_there : rack < s.racks
  pub round_low : 1 ≤ r.round
  pub step_below : r.step < round_steps s
  pub first_there : leading ≤ r.step → r.first < s.lanes
  pub source_there : leading ≤ r.step → decision_at s t.decisions r.round r.first < s.racks

-- test 4 as well: the rack has a round to take its step in
pub record Ready (s : Size) (t : Tables) (rack : ℕ) (r : Rack) : Type 0 where
  pub tested : Tested s t rack r
  pub round_high : r.round ≤ s.rounds

-- the parts of it that the kinds use: a rack at a step of a round
pub record InRound (s : Size) (r : Rack) : Type 0 where
  pub size : size_fits s ≡ true
  pub round_low : 1 ≤ r.round
  pub round_high : r.round ≤ s.rounds
  pub step_below : r.step < round_steps s

-- with the whole cell table
pub record AtCells (s : Size) (cells : List ℕ) (rack : ℕ) (r : Rack) : Type 0 where
  pub round : InRound s r
  pub exact : length cells ≡ cells_length s
  pub rack_there : rack < s.racks

-- in a block, so with a first lane
pub record InBlock (s : Size) (cells : List ℕ) (rack : ℕ) (r : Rack) : Type 0 where
  pub at : AtCells s cells rack r
  pub first_there : r.first < s.lanes

-- with the whole decision table, and a lane that is there
pub record AtDecisions (s : Size) (decisions : List ℕ) (r : Rack) (lane : ℕ) : Type 0 where
  pub round : InRound s r
  pub exact : length decisions ≡ decisions_length s
  pub lane_there : lane < s.lanes

-- in a block, with both tables and the first lane decided
pub record Decided (s : Size) (cells decisions : List ℕ) (rack : ℕ) (r : Rack) : Type 0 where
  pub block : InBlock s cells rack r
  pub exact : length decisions ≡ decisions_length s
  pub source_there : decision_at s decisions r.round r.first < s.racks

-- at the read of a second cell, with the whole log table, where settling makes no log longer than R
pub record Settling (s : Size) (cells logs : List ℕ) (rack : ℕ) (r : Rack) : Type 0 where
  pub block : InBlock s cells rack r
  pub second_read_is : kind_of s r.step ≡ SecondRead
  pub exact : length logs ≡ logs_length s
  pub room : is_last s r ≡ true → too_long s rack (logs_of logs) (after_second_read s (cells_of cells) rack r) ≡ false
