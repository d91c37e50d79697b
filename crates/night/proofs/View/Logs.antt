-- A lane's log in its table shows a log of the history, and the three rules of settling give on both sides the same.
use mathlib.Core.Path.{◌≡◌, refl, sym, ap, ◌∙◌}
use mathlib.Core.Logic.{◌≢◌}
use mathlib.Core.Bool.{Bool, true, false, cond}
use Prim.Native.Nat.{ℕ, suc, ◌+◌, ◌≤◌, ◌<◌}
use native.Mathlib.Omega.{arith}
use borrow.Author.Tests.{eqb-true, eqb-false, eq-eqb, ne_eqb}
use lib.Dec.{eqb}
use Rattle.laws.proofs.Cases.{either, bool, eq_or_ne}
use Rattle.model.specs.declared.Size.{Size}
use Rattle.model.specs.declared.Cue.{Cue}
use Rattle.model.specs.declared.Value.{Value}
use Rattle.model.specs.Record.{entry_at, adopted, committed, Logs}
use Rattle.model.specs.Settle as card
use Rattle.model.proofs.Record.{length_store, load_store, load_other}
use Rattle.steady.proofs.Append.{Rooms}
use Rattle.protocol.specs.AdoptCommit.{Marked}
use Rattle.protocol.specs.Log.{Log, start, ◌▷◌, size, count, last, own_next}
use Rattle.protocol.specs.Settle as protocol
use Rattle.night.specs.View.{marked_cell, entry_in}

pub record LogShown (l : card.Log) (log : Log) : Type 0 where
  pub length : l.length ≡ size log
  pub entries : (place : ℕ) → place < size log → entry_at l.table (l.start + place) ≡ entry_in log place

pub same_test : (a b : ℕ) → eqb a b ≡ eqb b a
same_test a b =
    either (bool (eqb b a))
    (λ t. rw t (eq-eqb a b (sym (eqb-true b a t))))
    (λ f. rw f (ne_eqb a b (λ e. eqb-false b a f (sym e))))

-- a mark's cell
pub marked_value : (m : Marked) → (marked_cell m).value ≡ m.value
marked_value m = go m.committed
  where
    go : (b : Bool) → (cond b (committed m.value) (adopted m.value)).value ≡ m.value
    go true = refl
    go false = refl

-- an earlier entry of a longer log
earlier : (log : Log) (c : Cue) (place : ℕ) → place < size log → entry_in (log ▷ c) place ≡ entry_in log place
earlier log c place h = rw (ne_eqb place (size log) (λ e. omega arith))

-- what a log says to its rack
module _ (table : Logs) (from rack : ℕ) where
  own_cues_is : (log : Log) → ((place : ℕ) → place < size log → entry_at table (from + place) ≡ entry_in log place)
      → card.own_cues table from rack (size log) ≡ count rack log
  unfolding card.own_cues
  own_cues_is start h = refl
  own_cues_is (log ▷ c) h =
      let here : entry_at table (from + size log) ≡ c = h (size log) (omega arith) ∙ rw (eq-eqb (size log) (size log) refl) in
      let before = own_cues_is log (λ place g. h place (omega arith) ∙ earlier log c place g) in
      rw (here, same_test rack c.issuer, before) (omega arith)

  last_entry_is : (log : Log) → ((place : ℕ) → place < size log → entry_at table (from + place) ≡ entry_in log place)
      → card.last_entry table from (size log) ≡ last log
  unfolding card.last_entry
  last_entry_is start h = refl
  last_entry_is (log ▷ c) h = h (size log) (omega arith) ∙ rw (eq-eqb (size log) (size log) refl)

-- no rule shortens a log
rule_longer : (l : card.Log) (b : Bool) (c : Cue) → l.length ≤ (cond b (card.append l c) l).length
rule_longer l true c = omega arith
rule_longer l false c = omega arith

committed_longer : (l : card.Log) (b : Bool) (v : Value) → let m : Marked = record { committed = b; value = v } in
    l.length ≤ (card.append_committed l (marked_cell m)).length
unfolding card.append_committed
committed_longer l true v = rule_longer l (eqb v.place l.length) v.cue
committed_longer l false v = omega arith

module _ (s : Size) where
  -- one more entry
  append_shown : (l : card.Log) (log : Log) → LogShown l log → Rooms s l → (c : Cue) → l.length < s.rounds → LogShown (card.append l c) (log ▷ c)
  append_shown l log h room c short =
      let at = l.start + l.length in
      let e = h.length in
      record {
        length = ap suc h.length;
        entries =
            λ place g.
            either (eq_or_ne place (size log))
            (λ (f : place ≡ size log).
            let p : place ≡ l.length = omega arith in
            rw (eq-eqb place (size log) f, p) (load_store l.table at c (room l.length short)))
            (λ (d : place ≢ size log).
            load_other l.table at c (l.start + place) (λ x. omega (arith, d))
            ∙ h.entries place (omega arith)
            ∙ sym (earlier log c place (omega arith)));
      }

  -- either rule appends a cue or does nothing
  module _ (l : card.Log) (room : Rooms s l) where
    rule_shown : (log : Log) → LogShown l log → (b : Bool) (c : Cue) → (cond b (card.append l c) l).length ≤ s.rounds
        → LogShown (cond b (card.append l c) l) (cond b (log ▷ c) log)
    rule_shown log h true c short = append_shown l log h room c short
    rule_shown log h false c short = h

    rule_room : (b : Bool) (c : Cue) → Rooms s (cond b (card.append l c) l)
    rule_room true c = λ i g. rw (length_store l.table (l.start + l.length) c) (room i g)
    rule_room false c = room

  module _ (l : card.Log) (log : Log) (h : LogShown l log) where
    missed_shown : Rooms s l → (v : Value) → (card.append_missed l v).length ≤ s.rounds → LogShown (card.append_missed l v) (protocol.append_missed log v)
    unfolding card.append_missed protocol.append_missed
    missed_shown room v short = rw (← h.length) (rule_shown l room log h (eqb v.place (suc l.length)) v.previous short)

    missed_room : Rooms s l → (v : Value) → Rooms s (card.append_missed l v)
    unfolding card.append_missed
    missed_room room v = rule_room l room (eqb v.place (suc l.length)) v.previous

    committed_as : Rooms s l → (b : Bool) (v : Value) → let m : Marked = record { committed = b; value = v } in
        (card.append_committed l (marked_cell m)).length ≤ s.rounds → LogShown (card.append_committed l (marked_cell m)) (protocol.append_committed log m)
    unfolding card.append_committed protocol.append_committed
    committed_as room true v short = rw (← h.length) (rule_shown l room log h (eqb v.place l.length) v.cue short)
    committed_as room false v short = h

    -- rule 3
    own_next_is : (rack : ℕ) → card.own_next rack (card.state_of rack l) ≡ own_next rack log
    unfolding card.own_next
    own_next_is rack =
        let long = h.length in
        let own : card.own_cues l.table l.start rack l.length ≡ count rack log =
        ap (card.own_cues l.table l.start rack) long ∙ own_cues_is l.table l.start rack log h.entries
        in
        let number : 1 + card.own_cues l.table l.start rack l.length ≡ suc (count rack log) = omega arith in
        let previous : card.last_entry l.table l.start l.length ≡ last log =
        ap (card.last_entry l.table l.start) long ∙ last_entry_is l.table l.start rack log h.entries
        in
        λ i. record { place = long i; cue = record { issuer = rack; number = number i }; previous = previous i }

    next_as : (rack : ℕ) (b : Bool) (v : Value) → let m : Marked = record { committed = b; value = v } in
        card.next_held rack (card.state_of rack l) (marked_cell m) ≡ protocol.next_held rack log m
    unfolding card.next_held protocol.next_held
    next_as rack true v = λ i. cond (eqb v.place (h.length i)) v (own_next_is rack i)
    next_as rack false v = λ i. cond (eqb v.place (h.length i)) v (own_next_is rack i)

    pub next_shown : (rack : ℕ) (m : Marked) → card.next_held rack (card.state_of rack l) (marked_cell m) ≡ protocol.next_held rack log m
    next_shown rack m = next_as rack m.committed m.value

  -- rules 1 and 2
  pub settled_shown : (l : card.Log) (log : Log) → LogShown l log → Rooms s l → (m : Marked) (v : Value)
      → (card.settled_log l (marked_cell m) v).length ≤ s.rounds → LogShown (card.settled_log l (marked_cell m) v) (protocol.settled_log log m v)
  unfolding protocol.settled_log
  settled_shown l log h room m v short =
      let l' = card.append_missed l v in
      let room' = missed_room l log h room v in
      let longer = committed_longer l' m.committed m.value in
      let shorter : l'.length ≤ s.rounds = omega arith in
      committed_as l' (protocol.append_missed log v) (missed_shown l log h room v shorter) room' m.committed m.value short
