-- One lane: the log that rules 1 and 2 leave, its length, and the records that stay as they were.
use mathlib.Core.Path.{◌≡◌, refl, ap, ◌∙◌}
use mathlib.Core.List.{List}
use mathlib.Core.Logic.{◌≢◌}
use mathlib.Core.Bool.{Bool, true, false, cond, ◌&&◌}
use Prim.Native.Nat.{ℕ, suc, ◌+◌, ◌≤◌, ◌<◌}
use native.Mathlib.Omega.{arith}
use lib.Dec.{eqb}
use mir.Val.{bool_byte}
use Rattle.model.specs.declared.Size.{Size}
use Rattle.model.specs.declared.Cue.{Cue}
use Rattle.model.specs.declared.Value.{Value}
use Rattle.model.specs.declared.Cell.{Cell}
use Rattle.model.specs.declared.Rack.{Rack}
use Rattle.model.specs.InUse.{logs_of}
use Rattle.model.specs.Record.{is_committed, entry_at}
use Rattle.model.specs.Table.{log_start, result_at, news_at}
use Rattle.model.specs.Settle.{Log, append, append_missed, append_committed, settled_log, lane_log}
use Rattle.model.proofs.Record.{load_other}
use Rattle.model.proofs.Rules.{committed_least}
use Rattle.settle.specs.Fits.{grown_if, log_at}
use Rattle.settle.specs.Lent.{Room, Lent}
use Rattle.model.proofs.Sizes.{sizes}
use Rattle.model.proofs.Start.{log_fits}

-- "if the news has place L + 1"
abbrev pub is_missed : ℕ → Value → Bool
is_missed length news = eqb news.place (suc length)

-- "if the result is committed and has place L"
abbrev pub is_due : ℕ → Cell → Bool
is_due length result = is_committed result && eqb result.value.place length

-- a log that is appended to under a condition
abbrev pub append_if : Bool → Log → Cue → Log
append_if due log c = cond due (append log c) log

append_length : (due : Bool) (log : Log) (c : Cue) → (append_if due log c).length ≡ grown_if due log.length
append_length true log c = refl
append_length false log c = refl

append_start : (due : Bool) (log : Log) (c : Cue) → (append_if due log c).start ≡ log.start
append_start true log c = refl
append_start false log c = refl

append_other : (due : Bool) (log : Log) (c : Cue) (i : ℕ) → (due ≡ true → i ≢ log.start + log.length)
    → entry_at (append_if due log c).table i ≡ entry_at log.table i
append_other true log c i away = load_other log.table (log.start + log.length) c i (away refl)
append_other false log c i away = refl

-- the code adds the condition as a number
pub grown_by : (due : Bool) (l : ℕ) → l + bool_byte due ≡ grown_if due l
grown_by true l = omega arith
grown_by false l = omega arith

-- if what an append leaves is at most so much, there was less before
grown_room : (due : Bool) (l most : ℕ) → grown_if due l ≤ most → due ≡ true → l < most
grown_room due l most h e = rw e at h

-- L after rule 1, and after rule 2
abbrev missed_length : ℕ → Value → ℕ
missed_length l news = grown_if (is_missed l news) l

abbrev pub settled_length : ℕ → Cell → Value → ℕ
settled_length l result news = grown_if (is_due (missed_length l news) result) (missed_length l news)

pub settled_length_is : (log : Log) (result : Cell) (news : Value) → (settled_log log result news).length ≡ settled_length log.length result news
unfolding append_missed append_committed
settled_length_is log result news =
    let missed = append_if (is_missed log.length news) log news.previous in
    append_length (is_due missed.length result) missed result.value.cue
    ∙ ap (λ (l : ℕ). grown_if (is_due l result) l) (append_length (is_missed log.length news) log news.previous)

-- rules 1 and 2, where what they leave is at most so much
module _ (log : Log) (result : Cell) (news : Value) (most : ℕ) (short : (settled_log log result news).length ≤ most) where
  abbrev missed : Bool
  missed = is_missed log.length news

  abbrev log₁ : Log
  log₁ = append_missed log news

  abbrev due : Bool
  due = is_due log₁.length result

  -- a cue that they append has its place in the log
  pub missed_room : missed ≡ true → log.length < most
  unfolding append_missed
  missed_room t =
      grown_room missed log.length most (omega (arith, append_length missed log news.previous, committed_least log₁ result)) t

  pub due_room : due ≡ true → log₁.length < most
  unfolding append_committed
  due_room t = grown_room due log₁.length most (omega (arith, append_length due log₁ result.value.cue)) t

  -- they leave a record outside the log as it was
  pub settled_other : (i : ℕ) → ((j : ℕ) → j < most → i ≢ log.start + j) → entry_at (settled_log log result news).table i ≡ entry_at log.table i
  unfolding append_missed append_committed
  settled_other i away =
      append_other due log₁ result.value.cue i
      (λ d. rw (append_start missed log news.previous) (away log₁.length (due_room d)))
      ∙ append_other missed log news.previous i (λ m. away log.length (missed_room m))

module _ (s : Size) (logs : List ℕ) (rack : ℕ) (r : Rack) (lane : ℕ) {start : ℕ} (at : start ≡ log_start s rack lane) where
  -- a lane's log by its start
  pub lane_as : settled_log (log_at (logs_of logs) start s.rounds) (result_at r lane) (news_at r lane) ≡ lane_log s rack (logs_of logs) r lane
  unfolding lane_log
  lane_as = rw at

  -- its records lie within a table that is lent
  pub lane_room : Lent s logs rack → lane < s.lanes → Room logs start s.rounds
  lane_room p q =
      record {
        inside = rw (at, p.exact) (log_fits s rack lane p.sizes p.rack_there q);
        few = (sizes s p.sizes).rounds_high;
      }
