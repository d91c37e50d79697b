-- Rule 3 of settling: the value held next is sound, and its place is the log's length.
use mathlib.Core.Path.{◌≡◌, refl}
use mathlib.Core.Logic.{◌≢◌}
use mathlib.Core.Bool.{true}
use Prim.Native.Nat.{ℕ, zero, suc, ◌+◌, ◌≤◌, ◌<◌}
use native.Mathlib.Omega.{arith}
use borrow.Author.Tests.{eqb-true, eqb-false, le-leb, lt-ltb}
use lib.Dec.{eqb}
use Rattle.laws.proofs.Cases.{either, bool, true_and}
use Rattle.model.specs.declared.Size.{Size}
use Rattle.model.specs.declared.Cell.{Cell}
use Rattle.model.specs.Record.{no_cue, same_cue, entry_at, Logs}
use Rattle.model.specs.Settle.{Log, own_cues, last_entry, state_of, own_next, next_held}
use Rattle.model.specs.Sound.{sound_cue, sound_value}
use Rattle.model.proofs.Same.{same_cue_is}
use Rattle.steady.proofs.Tests.{both_cond}
use Rattle.steady.proofs.Logs.{LogSound}

-- a log has at most as many cues of one rack as entries
own_few : (table : Logs) (start rack n : ℕ) → own_cues table start rack n ≤ n
unfolding own_cues
own_few table start rack zero = omega arith
own_few table start rack (suc n) =
    let h = own_few table start rack n in
    either (bool (eqb (entry_at table (start + n)).issuer rack)) (λ e. rw e (omega arith)) (λ e. rw e (omega arith))

module _ (s : Size) where
  last_none : (table : Logs) (start n : ℕ) → n ≡ 0 → same_cue (last_entry table start n) no_cue ≡ true
  unfolding last_entry
  last_none table start zero e = same_cue_is no_cue
  last_none table start (suc n) e = absurd (omega arith)

  last_some : (table : Logs) (start n : ℕ) → ((i : ℕ) → i < n → sound_cue s (entry_at table (start + i)) ≡ true) → n ≢ 0
      → sound_cue s (last_entry table start n) ≡ true
  unfolding last_entry
  last_some table start zero f d = absurd (d refl)
  last_some table start (suc n) f d = f n (omega arith)

  module _ (rack : ℕ) (there : rack < s.racks) (log : Log) (ok : LogSound s log) where
    own_sound : sound_value s (own_next rack (state_of rack log)) ≡ true
    unfolding own_next sound_value sound_cue
    own_sound =
        let few = own_few log.table log.start rack log.length in
        let short = ok.short in
        true_and (le-leb log.length s.rounds short)
        (true_and
        (true_and (lt-ltb rack s.racks there)
        (true_and
        (le-leb 1 (1 + own_cues log.table log.start rack log.length) (omega arith))
        (le-leb (1 + own_cues log.table log.start rack log.length) (s.rounds + 1) (omega arith))))
        (both_cond (eqb log.length 0)
        (λ e. last_none log.table log.start log.length (eqb-true log.length 0 e))
        (λ e. last_some log.table log.start log.length ok.used (eqb-false log.length 0 e))))

    pub next_sound : (c : Cell) → sound_value s c.value ≡ true → sound_value s (next_held rack (state_of rack log) c) ≡ true
    unfolding next_held
    next_sound c v =
        either (bool (eqb c.value.place log.length))
        (λ e. rw e v)
        (λ e. rw e own_sound)

    pub next_place : (c : Cell) → (next_held rack (state_of rack log) c).place ≡ log.length
    unfolding next_held own_next
    next_place c =
        either (bool (eqb c.value.place log.length))
        (λ e. rw e (eqb-true c.value.place log.length e))
        (λ e. rw e)
