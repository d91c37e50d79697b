-- The three rules of settling by their conditions.
use mathlib.Core.Path.{◌≡◌}
use mathlib.Core.List.{List}
use mathlib.Core.Bool.{true, false, ◌&&◌}
use Prim.Native.Nat.{ℕ, suc, ◌+◌, ◌≤◌}
use native.Mathlib.Nat.{zero-add}
use native.Mathlib.Numerals.{add-one}
use native.Mathlib.Omega.{arith}
use borrow.Author.Tests.{eq-eqb, ne_eqb}
use lib.Dec.{eqb}
use Rattle.laws.proofs.Cases.{either, bool}
use Rattle.model.specs.declared.Cue.{Cue}
use Rattle.model.specs.declared.Value.{Value}
use Rattle.model.specs.declared.Cell.{Cell}
use Rattle.model.specs.declared.Rack.{Rack}
use Rattle.model.specs.Record.{is_committed, Logs}
use Rattle.model.specs.Form.{stored}
use Rattle.model.specs.InUse.{logs_of}
use Rattle.model.specs.Table.{result_at, news_at}
use Rattle.model.specs.Settle.{Log, part_log, append, append_missed, append_committed, settled_log, LogState, state_of, own_next, next_held, settled_rack, Settled, settle_part}

module _ (log : Log) (news : Value) where
  pub missed : news.place ≡ suc log.length → append_missed log news ≡ append log news.previous
  unfolding append_missed
  missed e = rw (eq-eqb news.place (suc log.length) e)

  pub none_missed : (news.place ≡ suc log.length → ⊥) → append_missed log news ≡ log
  unfolding append_missed
  none_missed n = rw (ne_eqb news.place (suc log.length) n)

module _ (log : Log) (result : Cell) where
  pub due : is_committed result && eqb result.value.place log.length ≡ true → append_committed log result ≡ append log result.value.cue
  unfolding append_committed
  due e = rw e

  pub none_due : is_committed result && eqb result.value.place log.length ≡ false → append_committed log result ≡ log
  unfolding append_committed
  none_due e = rw e

  -- rule 2 leaves no log shorter
  pub committed_least : log.length ≤ (append_committed log result).length
  committed_least =
      either (bool (is_committed result && eqb result.value.place log.length))
      (λ e. rw (due e) (omega arith))
      (λ e. rw (none_due e) (omega arith))

-- the own next cue, of what is read from the log
pub own_next_is : (rack : ℕ) (state : LogState) {own : ℕ} {last : Cue} → own ≡ state.own → last ≡ state.last
    → ◌≡◌ {A = Value} (record { place = state.length; cue = record { issuer = rack; number = 1 + own }; previous = last }) (own_next rack state)
unfolding own_next
own_next_is rack state e f = rw (e, f)

module _ (rack : ℕ) (state : LogState) (result : Cell) where
  pub hold_result : result.value.place ≡ state.length → next_held rack state result ≡ result.value
  unfolding next_held
  hold_result e = rw (eq-eqb result.value.place state.length e)

  pub hold_own : (result.value.place ≡ state.length → ⊥) → next_held rack state result ≡ own_next rack state
  unfolding next_held
  hold_own n = rw (ne_eqb result.value.place state.length n)

-- the log of so many entries that is lent by itself, and a cue stored behind them
abbrev pub alone : List ℕ → ℕ → Log
alone bytes length = record { table = logs_of bytes; start = 0; length = length }

pub appended : {bytes' : List ℕ} {l' : ℕ} (bytes : List ℕ) (l : ℕ) (c : Cue) → bytes' ≡ stored (logs_of bytes) l c → l' ≡ l + 1
    → alone bytes' l' ≡ append (alone bytes l) c
appended bytes l c e f = rw (zero-add, e, f, add-one)

-- a lane is settled by the log that rules 1 and 2 leave, and by what is held then
pub settled_part : {q : Rack} (part : Logs) (r : Rack) (lane rack : ℕ) (log : Log)
    → log ≡ settled_log (part_log part) (result_at r lane) (news_at r lane) → q ≡ settled_rack r lane rack (state_of rack log)
    → ◌≡◌ {A = Settled} (record { logs = log.table; rack = q }) (settle_part part r lane rack)
unfolding settle_part
settled_part part r lane rack log e f = rw (f, e)
