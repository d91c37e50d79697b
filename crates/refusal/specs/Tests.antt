-- Test 8 over the two tables that it reads, and what the tests require.
use Rattle.std.specs.Prelude.{◌≡◌, List, Bool, false, ◌&&◌, ℕ, ◌≤◌, ◌<◌, length}
use Rattle.model.specs.Record.{Cells, Logs}
use Rattle.model.specs.declared.Size.{Size}
use Rattle.model.specs.declared.Rack.{Rack}
use Rattle.model.specs.Size.{leading}
use Rattle.model.specs.InUse.{logs_length}
use Rattle.model.specs.Settle.{too_long}
use Rattle.model.specs.Step.{after_second_read, is_last}
use Rattle.model.specs.Turn.{misnamed}
use Rattle.step.specs.Ready.{InRound, AtCells}

-- "last step: settling would make a log longer than R"
unfoldable pub overfull_in : Size → Cells → Logs → ℕ → Rack → Bool
overfull_in s cells logs rack r = is_last s r && too_long s rack logs (after_second_read s cells rack r)

-- tests 6 and 7: tests 4 and 5 did not refuse
pub record Named (s : Size) (r : Rack) (lane source : ℕ) : Type 0 where
  pub round : InRound s r
  pub well : misnamed s r lane source ≡ false

-- test 8: test 4 did not refuse
pub record Ending (s : Size) (cells logs : List ℕ) (rack : ℕ) (r : Rack) : Type 0 where
  pub at : AtCells s cells rack r
  pub exact : length logs ≡ logs_length s
  pub first_there : leading ≤ r.step → r.first < s.lanes
