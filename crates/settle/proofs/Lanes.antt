-- All lanes: settling one leaves the others' logs, results and news as they were, so that what fits at the start fits when its turn comes.
use mathlib.Core.Path.{◌≡◌, refl, sym, ◌∙◌}
use mathlib.Core.Logic.{◌≢◌}
use mathlib.Core.Bool.{false}
use Prim.Native.Nat.{ℕ, zero, suc, ◌+◌, ◌≤◌, ◌<◌}
use native.Mathlib.Omega.{arith}
use borrow.Author.Tests.{leb-true, not-false}
use Rattle.model.specs.Record.{Logs}
use Rattle.laws.specs.Below.{below}
use Rattle.laws.proofs.Below.{below_at}
use Rattle.model.specs.declared.Size.{Size}
use Rattle.model.specs.declared.Rack.{Rack}
use Rattle.model.specs.Table.{log_start, log_length, result_at, news_at}
use Rattle.model.specs.Settle.{log_of, settled_rack, lane_log, settle_lane, settle_lanes, too_long}
use Rattle.model.proofs.Table.{entry_lane}
use Rattle.model.proofs.Length.{length_same}
use Rattle.settle.specs.Fits.{lane_fits}
use Rattle.settle.proofs.Lane.{settled_length, settled_length_is, settled_other}

module _ (s : Size) (rack : ℕ) where
  lane_length : (logs : Logs) (r : Rack) (lane : ℕ)
      → (lane_log s rack logs r lane).length ≡ settled_length (log_length s logs rack lane) (result_at r lane) (news_at r lane)
  unfolding lane_log
  lane_length logs r lane = settled_length_is (log_of s logs rack lane) (result_at r lane) (news_at r lane)

  -- settling one lane leaves another's log as it was
  lane_other : (logs : Logs) (r : Rack) (l lane : ℕ) → l < s.lanes → lane < s.lanes → l ≢ lane
      → (lane_log s rack logs r l).length ≤ s.rounds → log_length s (settle_lane s rack logs r l).logs rack lane ≡ log_length s logs rack lane
  unfolding settle_lane lane_log
  lane_other logs r l lane p q n room =
      length_same (settle_lane s rack logs r l).logs logs (log_start s rack lane) (log_start s rack lane) s.rounds
      (λ j h. settled_other (log_of s logs rack l) (result_at r l) (news_at r l) s.rounds room (log_start s rack lane + j)
      (λ i g e. n (sym (entry_lane s rack lane j rack l i q h p g e))))

  module _ (logs : Logs) (r : Rack) where
    results_kept : (l : ℕ) → (settle_lanes s rack logs r l).rack.results ≡ r.results
    unfolding settle_lanes settle_lane settled_rack
    results_kept zero = refl
    results_kept (suc l) = results_kept l

    news_kept : (l : ℕ) → (settle_lanes s rack logs r l).rack.news ≡ r.news
    unfolding settle_lanes settle_lane settled_rack
    news_kept zero = refl
    news_kept (suc l) = news_kept l

    module _ (short : too_long s rack logs r ≡ false) where
      fits_first : (lane : ℕ) → lane < s.lanes → (lane_log s rack logs r lane).length ≤ s.rounds
      unfolding too_long
      fits_first lane h =
          leb-true (lane_log s rack logs r lane).length s.rounds
          (below_at s.lanes (lane_fits s rack logs r) (not-false (below s.lanes (lane_fits s rack logs r)) short) lane h)

      -- a lane whose log is as at the start has room
      fits_yet : (l lane : ℕ) → lane < s.lanes → log_length s (settle_lanes s rack logs r l).logs rack lane ≡ log_length s logs rack lane
          → (lane_log s rack (settle_lanes s rack logs r l).logs (settle_lanes s rack logs r l).rack lane).length ≤ s.rounds
      fits_yet l lane h e =
          rw (lane_length (settle_lanes s rack logs r l).logs (settle_lanes s rack logs r l).rack lane, e, results_kept l, news_kept l, ← lane_length logs r lane)
          (fits_first lane h)

      length_kept : (l lane : ℕ) → l ≤ lane → lane < s.lanes
          → log_length s (settle_lanes s rack logs r l).logs rack lane ≡ log_length s logs rack lane
      unfolding settle_lanes
      length_kept zero lane h g = refl
      length_kept (suc l) lane h g =
          lane_other (settle_lanes s rack logs r l).logs (settle_lanes s rack logs r l).rack l lane (omega arith) g (λ e. omega arith)
          (fits_yet l l (omega arith) (length_kept l l (omega arith) (omega arith)))
          ∙ length_kept l lane (omega arith) g

      -- each lane has room when its turn comes
      pub fits_in_turn : (lane : ℕ) → lane < s.lanes
          → (lane_log s rack (settle_lanes s rack logs r lane).logs (settle_lanes s rack logs r lane).rack lane).length ≤ s.rounds
      fits_in_turn lane h = fits_yet lane lane h (length_kept lane lane (omega arith) h)
