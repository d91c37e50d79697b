-- The log table: a sound log is so many sound entries and zeros behind them, and its length is their number.
use mathlib.Core.Path.{◌≡◌, refl, ap, ◌∙◌}
use mathlib.Core.Bool.{Bool, true, false, cond, ◌&&◌}
use Prim.Native.Nat.{ℕ, zero, suc, ◌+◌, ◌≤◌, ◌<◌}
use native.Mathlib.Omega.{arith}
use native.Mathlib.Nat.{add-zero}
use borrow.Author.Tests.{ltb-true, ltb-false, lt-ltb, le-ltb, leb-true}
use lib.Dec.{ltb, leb}
use Rattle.laws.proofs.Cases.{either, bool, and_true, true_and}
use Rattle.laws.proofs.Below.{below_at, all_below}
use Rattle.model.specs.declared.Size.{Size}
use Rattle.model.specs.declared.Cue.{Cue}
use Rattle.model.specs.Size.{within}
use Rattle.model.specs.Form.{spare_at}
use Rattle.model.specs.Record.{no_cue, same_cue, entry_at, Logs}
use Rattle.model.specs.Table.{log_start, length_from, log_length}
use Rattle.model.specs.Settle.{Log, log_of}
use Rattle.model.specs.Sound.{sound_cue, sound_entries, sound_log, sound_logs}
use Rattle.model.proofs.Same.{cue_same, same_cue_is}
use Rattle.model.proofs.Length.{length_most}
use Rattle.steady.proofs.Tests.{cond_then, cond_else, both_cond}

pub record LogSound (s : Size) (log : Log) : Type 0 where
  pub short : log.length ≤ s.rounds
  pub used : (i : ℕ) → i < log.length → sound_cue s (entry_at log.table (log.start + i)) ≡ true
  pub rest : (i : ℕ) → log.length ≤ i → i < s.rounds → entry_at log.table (log.start + i) ≡ no_cue
  pub clean : (i : ℕ) → i < s.rounds → spare_at log.table (log.start + i) ≡ true

-- so many records that are not zero and then, if there is one more, a zero one
length_counts : (table : Logs) (most i n : ℕ) → n ≤ most
    → ((j : ℕ) → j < n → same_cue (entry_at table (i + j)) no_cue ≡ false)
    → (n < most → entry_at table (i + n) ≡ no_cue)
    → length_from table i most ≡ n
unfolding length_from
length_counts table zero i zero h used rest = refl
length_counts table zero i (suc n) h used rest = absurd (omega arith)
length_counts table (suc most) i zero h used rest =
    let e : entry_at table i ≡ no_cue = rw add-zero at (rest (omega arith)) in
    rw (ap (λ (c : Cue). same_cue c no_cue) e ∙ same_cue_is no_cue)
length_counts table (suc most) i (suc n) h used rest =
    let e : same_cue (entry_at table i) no_cue ≡ false = rw add-zero at (used 0 (omega arith)) in
    rw e
    (ap suc
    (length_counts table most (suc i) n (omega arith)
    (λ j g. let f : suc i + j ≡ i + suc j = omega arith in rw f (used (suc j) (omega arith)))
    (λ g. let f : suc i + n ≡ i + suc n = omega arith in rw f (rest (omega arith)))))

module _ (s : Size) where
  -- a sound cue has a number, so it is no zero record
  cue_there : (c : Cue) → sound_cue s c ≡ true → same_cue c no_cue ≡ false
  unfolding sound_cue
  cue_there c e =
      let p = and_true (ltb c.issuer s.racks) (within 1 (s.rounds + 1) c.number) e in
      let h = leb-true 1 c.number (and_true (leb 1 c.number) (leb c.number (s.rounds + 1)) p.1).0 in
      either (bool (same_cue c no_cue))
      (λ t. let z : c.number ≡ 0 = ap (λ (x : Cue). x.number) (cue_same c no_cue t) in absurd (omega arith))
      (λ f. f)

  -- the same log by another name of its start
  pub started : (log : Log) (start : ℕ) → log.start ≡ start → LogSound s log
      → LogSound s (record { table = log.table; start = start; length = log.length })
  started log start e ok =
      record { short = ok.short; used = λ i h. rw (← e) (ok.used i h); rest = λ i h g. rw (← e) (ok.rest i h g); clean = λ i h. rw (← e) (ok.clean i h) }

  pub length_is : (log : Log) → LogSound s log → length_from log.table log.start s.rounds ≡ log.length
  length_is log ok =
      length_counts log.table s.rounds log.start log.length ok.short
      (λ j h. cue_there (entry_at log.table (log.start + j)) (ok.used j h))
      (λ h. ok.rest log.length (omega arith) h)

  module _ (logs : Logs) where
    log_facts : (rack lane : ℕ) → sound_log s logs rack lane ≡ true → LogSound s (log_of s logs rack lane)
    unfolding sound_log sound_entries
    log_facts rack lane e =
        let n = log_length s logs rack lane in
        let entry : ℕ → Cue = λ i. entry_at logs (log_start s rack lane + i) in
        let spare : ℕ → Bool = λ i. spare_at logs (log_start s rack lane + i) in
        let test : ℕ → Bool = λ i. cond (ltb i n) (sound_cue s (entry i)) (same_cue (entry i) no_cue) in
        let both : (i : ℕ) → i < s.rounds → (test i ≡ true) × (spare i ≡ true) =
        λ i h. and_true (test i) (spare i) (below_at s.rounds (λ i. test i && spare i) e i h)
        in
        let short = length_most logs (log_start s rack lane) s.rounds in
        record {
          short = short;
          used = λ i h. cond_then (ltb i n) (sound_cue s (entry i)) (same_cue (entry i) no_cue) (both i (omega arith)).0 (lt-ltb i n h);
          rest = λ i h g. cue_same (entry i) no_cue (cond_else (ltb i n) (sound_cue s (entry i)) (same_cue (entry i) no_cue) (both i g).0 (le-ltb i n h));
          clean = λ i h. (both i h).1;
        }

    facts_log : (rack lane : ℕ) → LogSound s (log_of s logs rack lane) → sound_log s logs rack lane ≡ true
    unfolding sound_log sound_entries
    facts_log rack lane ok =
        let n = log_length s logs rack lane in
        all_below s.rounds _
        (λ i h. true_and
        (both_cond (ltb i n)
        (λ e. ok.used i (ltb-true i n e))
        (λ e. ap (λ (c : Cue). same_cue c no_cue) (ok.rest i (ltb-false i n e) h) ∙ same_cue_is no_cue))
        (ok.clean i h))

    pub logs_facts : sound_logs s logs ≡ true → (rack lane : ℕ) → rack < s.racks → lane < s.lanes → LogSound s (log_of s logs rack lane)
    unfolding sound_logs
    logs_facts e rack lane h g = log_facts rack lane (below_at s.lanes (sound_log s logs rack) (below_at s.racks _ e rack h) lane g)

    -- whatever length each log is said to have
    pub facts_logs : ((rack lane : ℕ) → rack < s.racks → lane < s.lanes
        → (n : ℕ) × LogSound s (record { table = logs; start = log_start s rack lane; length = n }))
        → sound_logs s logs ≡ true
    unfolding sound_logs
    facts_logs f =
        all_below s.racks _
        (λ rack h. all_below s.lanes _
        (λ lane g.
        let log = f rack lane h g in
        let at : Log = record { table = logs; start = log_start s rack lane; length = log.0 } in
        facts_log rack lane (rw (length_is at log.1) log.1)))
