-- Rules 1 and 2 of settling: a log that is appended to stays sound, and every record outside it stays.
use mathlib.Core.Path.{◌≡◌, refl, sym, ap, ◌∙◌}
use mathlib.Core.Logic.{◌≢◌}
use mathlib.Core.Bool.{Bool, true, false, cond, ◌&&◌}
use Prim.Native.Nat.{ℕ, suc, ◌+◌, ◌≤◌, ◌<◌}
use native.Mathlib.Omega.{arith}
use borrow.Author.Tests.{eqb-true, ne_eqb}
use lib.Dec.{eqb, leb}
use lib.ListN.{length}
use Rattle.laws.proofs.Cases.{either, eq_or_ne, and_true}
use Rattle.model.specs.declared.Size.{Size}
use Rattle.model.specs.declared.Cue.{Cue}
use Rattle.model.specs.declared.Value.{Value}
use Rattle.model.specs.declared.Cell.{Cell}
use Rattle.model.specs.Form.{Form, spare_at}
use Rattle.model.specs.Record.{no_cue, is_committed, same_cue, entry_at}
use Rattle.model.specs.Settle.{Log, append, append_missed, append_committed, settled_log}
use Rattle.model.specs.Sound.{sound_cue, sound_value}
use Rattle.model.proofs.Record.{Room, length_store, load_store, load_other, spare_store, spare_other}
use Rattle.steady.proofs.Tests.{cond_else}
use Rattle.steady.proofs.Logs.{LogSound}

-- the records of a log lie within its table
abbrev pub Rooms : Size → Log → Type 0
Rooms s log = (i : ℕ) → i < s.rounds → Room log.table (log.start + i)

-- what appending leaves
pub record Grown (s : Size) (log log' : Log) : Type 0 where
  pub start : log'.start ≡ log.start
  pub form : log'.table.form ≡ log.table.form
  pub sized : length log'.table.bytes ≡ length log.table.bytes
  pub outside : (at : ℕ) → ((i : ℕ) → i < s.rounds → at ≢ log.start + i) → entry_at log'.table at ≡ entry_at log.table at
  pub outside_spare : (at : ℕ) → ((i : ℕ) → i < s.rounds → at ≢ log.start + i) → spare_at log'.table at ≡ spare_at log.table at

module _ (s : Size) where
  append_sound : (log : Log) (c : Cue) → LogSound s log → Rooms s log → sound_cue s c ≡ true → suc log.length ≤ s.rounds → LogSound s (append log c)
  append_sound log c ok room fine h =
      let at = log.start + log.length in
      record {
        short = h;
        used =
            λ i g.
            either (eq_or_ne i log.length)
            (λ (e : i ≡ log.length). rw (e, load_store log.table at c (room log.length h)) fine)
            (λ (d : i ≢ log.length).
            rw (load_other log.table at c (log.start + i) (λ e. omega arith)) (ok.used i (omega arith)));
        rest = λ i g l. load_other log.table at c (log.start + i) (λ e. omega arith) ∙ ok.rest i (omega arith) l;
        clean =
            λ i g.
            either (eq_or_ne i log.length)
            (λ (e : i ≡ log.length). rw e (spare_store log.table at c (room log.length h)))
            (λ (d : i ≢ log.length). spare_other log.table at c (log.start + i) (λ e. omega arith) ∙ ok.clean i g);
      }

  -- either rule appends a cue or does nothing
  rule_sound : (b : Bool) (log : Log) (c : Cue) → LogSound s log → Rooms s log → (b ≡ true → sound_cue s c ≡ true)
      → (cond b (append log c) log).length ≤ s.rounds → LogSound s (cond b (append log c) log)
  rule_sound true log c ok room fine h = append_sound log c ok room (fine refl) h
  rule_sound false log c ok room fine h = ok

  rule_grown : (b : Bool) (log : Log) (c : Cue) → (cond b (append log c) log).length ≤ s.rounds → Grown s log (cond b (append log c) log)
  rule_grown true log c h =
      record {
        start = refl;
        form = refl;
        sized = length_store log.table (log.start + log.length) c;
        outside = λ at f. load_other log.table (log.start + log.length) c at (f log.length h);
        outside_spare = λ at f. spare_other log.table (log.start + log.length) c at (f log.length h);
      }
  rule_grown false log c h = record { start = refl; form = refl; sized = refl; outside = λ at f. refl; outside_spare = λ at f. refl }

  rule_length : (b : Bool) (log : Log) (c : Cue) → (cond b (append log c) log).length ≡ cond b (suc log.length) log.length
  rule_length true log c = refl
  rule_length false log c = refl

  rule_longer : (b : Bool) (log : Log) (c : Cue) → log.length ≤ (cond b (append log c) log).length
  rule_longer true log c = omega arith
  rule_longer false log c = omega arith

  -- the length that settling leaves depends on the length before alone
  pub same_length : (log log' : Log) (c : Cell) (v : Value) → log.length ≡ log'.length
      → (settled_log log c v).length ≡ (settled_log log' c v).length
  unfolding append_missed append_committed
  same_length log log' c v e =
      let missed : Log → Log = λ l. append_missed l v in
      let one : ℕ → ℕ = λ n. cond (eqb v.place (suc n)) (suc n) n in
      let two : ℕ → ℕ = λ n. cond (is_committed c && eqb c.value.place n) (suc n) n in
      let first : (l : Log) → (missed l).length ≡ one l.length = λ l. rule_length (eqb v.place (suc l.length)) l v.previous in
      let both : (l : Log) → (settled_log l c v).length ≡ two (one l.length) =
      λ l. rule_length (is_committed c && eqb c.value.place (missed l).length) (missed l) c.value.cue ∙ ap two (first l)
      in
      both log ∙ ap (λ (n : ℕ). two (one n)) e ∙ sym (both log')

  -- the previous cue of a value past place 0 is sound, and its own cue always
  previous_sound : (v : Value) → sound_value s v ≡ true → v.place ≢ 0 → sound_cue s v.previous ≡ true
  unfolding sound_value
  previous_sound v e d =
      let p = and_true (leb v.place s.rounds) _ e in
      let q = and_true (sound_cue s v.cue) _ p.1 in
      cond_else (eqb v.place 0) (same_cue v.previous no_cue) (sound_cue s v.previous) q.1 (ne_eqb v.place 0 d)

  cue_sound : (v : Value) → sound_value s v ≡ true → sound_cue s v.cue ≡ true
  unfolding sound_value
  cue_sound v e = (and_true (sound_cue s v.cue) _ (and_true (leb v.place s.rounds) _ e).1).0

  module _ (log : Log) (c : Cell) (v : Value) (ok : LogSound s log) (room : Rooms s log)
      (result_fine : sound_value s c.value ≡ true) (news_fine : sound_value s v ≡ true) (short : (settled_log log c v).length ≤ s.rounds) where
    abbrev missed : Log
    missed = append_missed log v

    missed_short : missed.length ≤ s.rounds
    unfolding append_committed
    missed_short = let h = rule_longer (is_committed c && eqb c.value.place missed.length) missed c.value.cue in omega arith

    missed_sound : LogSound s missed
    unfolding append_missed
    missed_sound =
        rule_sound (eqb v.place (suc log.length)) log v.previous ok room
        (λ e. let f = eqb-true v.place (suc log.length) e in previous_sound v news_fine (omega arith))
        missed_short

    missed_grown : Grown s log missed
    unfolding append_missed
    missed_grown = rule_grown (eqb v.place (suc log.length)) log v.previous missed_short

    missed_room : Rooms s missed
    missed_room i h =
        let e = missed_grown.start in
        let f = missed_grown.sized in
        let g = missed_grown.form in
        let k = ap (λ (x : Form Cue no_cue). x.width) g in
        let r = room i h in
        rw (e, k, f) r

    pub settled_sound : LogSound s (settled_log log c v)
    unfolding append_committed
    settled_sound =
        rule_sound (is_committed c && eqb c.value.place missed.length) missed c.value.cue missed_sound missed_room
        (λ e. cue_sound c.value result_fine)
        short

    pub settled_grown : Grown s log (settled_log log c v)
    unfolding append_committed
    settled_grown =
        let first = missed_grown in
        let g = rule_grown (is_committed c && eqb c.value.place missed.length) missed c.value.cue short in
        record {
          start = g.start ∙ first.start;
          form = g.form ∙ first.form;
          sized = g.sized ∙ first.sized;
          outside = λ at f. g.outside at (λ i h. rw first.start (f i h)) ∙ first.outside at f;
          outside_spare = λ at f. g.outside_spare at (λ i h. rw first.start (f i h)) ∙ first.outside_spare at f;
        }
