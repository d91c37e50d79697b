-- The lines of a log one behind the other, and that they are the sheet's.
use mathlib.Core.Path.{◌≡◌, refl, ◌∙◌}
use mathlib.Core.List.{List, ◌++◌}
use Prim.Native.Nat.{ℕ, zero, suc, ◌+◌, ◌*◌, ◌-◌, ◌≤◌, ◌<◌, ◌^◌}
use native.Mathlib.Omega.{arith}
use native.Mathlib.Nat.{add-zero}
use native.Mathlib.Numerals.{add-one}
use borrow.Author.Tests.{ltb-true, leb-true}
use lib.Dec.{ltb, leb}
use lib.ListN.{length, get_or, length-append}
use Rattle.model.specs.InUse.{logs_of}
use Rattle.laws.proofs.Cases.{either, bool, and_true}
use Rattle.model.specs.declared.Size.{Size}
use Rattle.model.specs.declared.Cue.{Cue}
use Rattle.model.specs.Size.{within}
use Rattle.model.specs.Record.{entry_at, Logs}
use Rattle.model.specs.Table.{Card, length_from, log_start, log_length, rack_at}
use Rattle.model.specs.Sound.{sound_cue}
use Rattle.model.specs.Cues.{list_start, list_length, code_in}
use Rattle.model.specs.Sheet.{log_line, entry_line, line_at, entry_lines, log_lines}
use Rattle.model.proofs.Sizes.{sizes}
use Rattle.model.proofs.Length.{length_most}
use Rattle.model.proofs.Start.{log_fits}
use Rattle.cues.proofs.Lists.{list_within, code_bytes}
use Rattle.steady.proofs.Logs.{logs_facts}
use Rattle.text.specs.Written.{Written, write}
use Rattle.text.proofs.Written.{behind, moved}
use Rattle.text.proofs.Lines.{log_most, entry_most}
use Rattle.tell.specs.Log.{entry_text, entries_text, log_text, EntriesReady, LogReady}

-- an entry's line by its cue and code
pub entry_text_is : (k : ℕ) (lists : List ℕ) (logs : Logs) (start lane i : ℕ) (c : Cue) (issuer number code : ℕ) → c ≡ entry_at logs (start + i)
    → issuer ≡ c.issuer → number ≡ c.number → code ≡ code_in k lists issuer lane number
    → entry_line i c.issuer c.number code ≡ entry_text k lists logs start lane i
unfolding entry_text
entry_text_is k lists logs start lane i c issuer number code e p q f = rw (f, p, q, e)

-- the first i entries written from a place on
pub record EntriesTo (k : ℕ) (lists : List ℕ) (logs : Logs) (start lane at : ℕ) (before : List ℕ) (i : ℕ) (w : Written) : Type 0 where
  pub same : length w.bytes ≡ length before
  pub near : w.place ≤ at + 128 * i
  pub text : w ≡ write before at (entries_text k lists logs start lane i)

module _ (k : ℕ) (lists : List ℕ) (logs : Logs) (start lane at : ℕ) (before : List ℕ) where
  pub entries_none : EntriesTo k lists logs start lane at before 0 (record { bytes = before; place = at })
  unfolding write entries_text
  entries_none = record { same = refl; near = omega arith; text = rw add-zero }

  pub entries_next : (i : ℕ) (v w : Written) (line : List ℕ) → EntriesTo k lists logs start lane at before i v
      → w ≡ write v.bytes v.place line → line ≡ entry_text k lists logs start lane i → length line ≤ 128
      → EntriesTo k lists logs start lane at before (i + 1) w
  unfolding entries_text
  entries_next i v w line h e f short =
      let m = moved v.bytes v.place line e short in
      record {
        same = m.same ∙ h.same;
        near = omega (arith, m.near, h.near);
        text = rw (add-one, ← f) (behind before at (entries_text k lists logs start lane i) line h.text e);
      }

module _ (s : Size) (logs lists : List ℕ) (rack lane start count : ℕ) (e : start ≡ log_start s rack lane)
    (f : count ≡ length_from (logs_of logs) start s.rounds) where
  -- a log that is there lies within its table, and so do the lists of its cues
  pub ready_entries : {out : List ℕ} (at : ℕ) (told : List ℕ) → LogReady s logs lists rack lane out
      → length told ≡ length out → at ≤ 128 → EntriesReady s.lanes logs lists start lane count at told
  unfolding sound_cue
  ready_entries at told r same h =
      let inside = log_fits s rack lane r.fit r.rack_there r.lane_there in
      let most = length_most (logs_of logs) start s.rounds in
      let facts = rw (← e, ← f) at (logs_facts s (logs_of logs) r.ok rack lane r.rack_there r.lane_there) in
      let entry : ℕ → Cue = λ i. entry_at (logs_of logs) (start + i) in
      record {
        inside = omega (arith, r.exact);
        listed = λ i g. list_within s.racks s.lanes lists (entry i).issuer lane r.lists_fit_is
            (ltb-true _ _ (and_true (ltb (entry i).issuer s.racks) (within 1 (s.rounds + 1) (entry i).number) (facts.used i g)).0)
            r.lane_there;
        room = omega (arith, (sizes s r.fit).rounds_high, r.room);
      }

  pub log_text_is : (finished : ℕ) → log_line rack lane finished count ++ entries_text s.lanes lists (logs_of logs) start lane count
      ≡ log_text s lists (logs_of logs) rack lane finished
  unfolding log_text
  log_text_is finished = rw (f, e)

-- a code of two bytes is small
code_small : (k : ℕ) (lists : List ℕ) (rack lane number : ℕ) → ((i : ℕ) → get_or lists i 0 < 256) → code_in k lists rack lane number < 2 ^ 64
unfolding code_in
code_small k lists rack lane zero bytes = omega arith
code_small k lists rack lane (suc i) bytes =
    let at = list_start k rack lane + i in
    either (bool (ltb i (list_length k lists rack lane)))
    (λ e. rw (e, code_bytes lists at) (omega (arith, bytes (2 * at), bytes (2 * at + 1))))
    (λ e. rw e (omega arith))

module _ (s : Size) (logs lists : List ℕ) (rack lane : ℕ) {out : List ℕ} (r : LogReady s logs lists rack lane out)
    (bytes : (i : ℕ) → get_or lists i 0 < 256) where
  -- each entry is at most a line
  entry_short : (i : ℕ) → i < log_length s (logs_of logs) rack lane → length (entry_text s.lanes lists (logs_of logs) (log_start s rack lane) lane i) ≤ 128
  unfolding entry_text sound_cue
  entry_short i h =
      let c = entry_at (logs_of logs) (log_start s rack lane + i) in
      let z = sizes s r.fit in
      let facts = logs_facts s (logs_of logs) r.ok rack lane r.rack_there r.lane_there in
      let most = length_most (logs_of logs) (log_start s rack lane) s.rounds in
      let t = and_true (ltb c.issuer s.racks) (within 1 (s.rounds + 1) c.number) (facts.used i h) in
      let issuer = ltb-true c.issuer s.racks t.0 in
      let number = leb-true c.number (s.rounds + 1) (and_true (leb 1 c.number) (leb c.number (s.rounds + 1)) t.1).1 in
      entry_most i c.issuer c.number _
      (omega (arith, z.rounds_high)) (omega (arith, z.racks_high)) (omega (arith, z.rounds_high))
      (code_small s.lanes lists c.issuer lane c.number bytes)

  entries_short : (i : ℕ) → i ≤ log_length s (logs_of logs) rack lane
      → length (entries_text s.lanes lists (logs_of logs) (log_start s rack lane) lane i) ≤ 128 * i
  unfolding entries_text
  entries_short zero h = omega arith
  entries_short (suc i) h = rw length-append (omega (arith, entries_short i (omega arith), entry_short i h))

  -- so a log's text is at most 65 lines
  pub log_short : (finished : ℕ) → finished < 2 ^ 64 → length (log_text s lists (logs_of logs) rack lane finished) ≤ 8320
  unfolding log_text
  log_short finished h =
      let L = log_length s (logs_of logs) rack lane in
      let z = sizes s r.fit in
      let most = length_most (logs_of logs) (log_start s rack lane) s.rounds in
      rw length-append
      (omega (
        arith,
        z.rounds_high,
        entries_short L (omega arith),
        log_most rack lane finished L (omega (arith, r.rack_there, z.racks_high)) (omega (arith, r.lane_there, z.lanes_high)) h
            (omega (arith, z.rounds_high)),
      ))

-- the text of a log of a card is the sheet's
module _ (s : Size) (lists : List ℕ) (card : Card) (rack lane : ℕ) where
  entries_lines : (count : ℕ) → entries_text s.lanes lists card.tables.logs (log_start s rack lane) lane count ≡ entry_lines s lists card rack lane count
  unfolding entries_text entry_text entry_lines line_at
  entries_lines zero = refl
  entries_lines (suc place) = rw (entries_lines place)

  pub log_lines_is : log_text s lists card.tables.logs rack lane ((rack_at card.racks rack).round - 1) ≡ log_lines s lists card rack lane
  unfolding log_text log_lines
  log_lines_is = rw (entries_lines (log_length s card.tables.logs rack lane))
