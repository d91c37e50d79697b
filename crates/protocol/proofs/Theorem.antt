-- What every reached history satisfies, for any lawful edition, any number of racks and lanes, and any list of turns.
use mathlib.Core.Path.{◌≡◌}
use mathlib.Core.Logic.{◌⊎◌}
use mathlib.Core.List.{List}
use Prim.Native.Nat.{ℕ, ◌+◌, ◌*◌, ◌/◌, ◌%◌, ◌≤◌, ◌<◌}
use native.Mathlib.Omega.{arith}
use Rattle.protocol.specs.Object.{Proposed, Done}
use Rattle.protocol.specs.AdoptCommit.{AdoptCommit}
use Rattle.protocol.specs.Edition.{Edition, Lawful, result, news_of}
use Rattle.protocol.specs.Log.{size, ◌⊑◌, Numbered}
use Rattle.protocol.specs.History.{Turn, History, log_of, entries, fresh_history, history}
use Rattle.protocol.specs.Clock.{round_length, step_of, accepted}
use Rattle.protocol.proofs.AdoptCommit.{adopt_commit}
use Rattle.protocol.proofs.Turn.{history_invariant}
use Rattle.protocol.proofs.Clock.{rounds_finished, step_number}
use Rattle.protocol.proofs.Lanes.{logs_begin, numbers_run, log_within}
use Rattle.protocol.proofs.Entries.{entries_bound}

-- what the logs of a history satisfy
pub record LogsHold (E : Edition) (n k : ℕ) (s : History E.Second) : Type 0 where
  -- of two logs of a lane, one begins with the other
  pub agree : (c : ℕ) → c < k → (q q' : ℕ) → q < n → q' < n → (log_of s q c ⊑ log_of s q' c) ⊎ (log_of s q' c ⊑ log_of s q c)
  -- in a log each issuer's cues run 1, 2, 3: none missing, none twice
  pub numbered : (c : ℕ) → c < k → (q : ℕ) → q < n → Numbered (log_of s q c)
  -- no log has more entries than its rack has finished rounds
  pub not_longer : (c : ℕ) → c < k → (q : ℕ) → q < n → size (log_of s q c) ≤ (s.racks q).finished
  -- a rack with f finished rounds has at least (f - 1) / 2 entries, rounded up
  pub not_fewer : (q : ℕ) → q < n → (s.racks q).finished ≤ 1 + 2 * entries k s q

-- rounds finished and step number, from the accepted turns alone
pub record ClockHolds (E : Edition) (n k : ℕ) (turns : List Turn) : Type 0 where
  pub rounds : (q : ℕ) → q < n
      → ((history E n k turns).racks q).finished ≡ accepted E n k q (fresh_history E) turns / round_length n k
  pub step : (q : ℕ) → q < n → step_of n (history E n k turns) q ≡ accepted E n k q (fresh_history E) turns % round_length n k

pub record Holds (E : Edition) (n k : ℕ) (turns : List Turn) : Type 0 where
  pub logs : LogsHold E n k (history E n k turns)
  pub clock : ClockHolds E n k turns
  -- the object of every round and lane is an adopt-commit object
  pub objects : (r c : ℕ)
      → let o = (history E n k turns).objects r c in AdoptCommit n (Proposed n o) (Done n o) (result E o) (news_of E o)

pub theorem : (E : Edition) → Lawful E → (n k : ℕ) (turns : List Turn) → Holds E n k turns
theorem E W n k turns =
    let s = history E n k turns in
    let inv = history_invariant E W n k turns in
    record {
      logs =
          record {
            agree = λ c lc q q' l l'.
                logs_begin E W n k s inv c lc (s.racks q).finished (s.racks q').finished q q' l l' (omega arith) (omega arith);
            numbered = λ c lc q l. numbers_run E W n k s inv c lc (s.racks q).finished q l (omega arith);
            not_longer = λ c lc q l. log_within E W n k s inv c lc (s.racks q).finished q l (omega arith);
            not_fewer = entries_bound E W n k s inv;
          };
      clock = record { rounds = rounds_finished E W n k turns; step = step_number E W n k turns };
      objects = λ r c. adopt_commit E W n (s.objects r c) (inv.consistent r c);
    }
