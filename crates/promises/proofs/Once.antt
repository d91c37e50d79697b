-- Every public call keeps its promise, and its promise determines the outcome. Each law takes the call's own theorem, `met`: if its contract says
-- anything else than `Calls` does, less or more, the law is refused.
use mathlib.Core.Path.{◌≡◌, refl, sym, ap, ◌∙◌}
use mathlib.Core.List.{List}
use Prim.Native.Nat.{ℕ}
use denote.Ref.{Bor}
use denote.Triple.Clauses.{Ended}
use Rattle.model.specs.declared.Rack.{Rack}
use Rattle.model.specs.Refusal.{reply_number, reply_or}
use Rattle.model.specs.Turn.{Outcome}
use Rattle.model.specs.InUse.{outcome}
use Rattle.model.specs.Cues.{Listed}
use Rattle.model.proofs.Refusals.{same_answer, same_reply}
use Rattle.compare.specs.Itself.{longer_itself}
use Rattle.turns.specs.declared.Turns.{Turns}
use Rattle.fresh.proofs.fresh.Met as fresh
use Rattle.card.proofs.sound.Met as sound
use Rattle.card.proofs.turn.Met as turn
use Rattle.entry.proofs.log_entry.Met as log_entry
use Rattle.compare.proofs.agree.Met as compare_agree
use Rattle.compare.proofs.longer.Met as compare_longer
use Rattle.turns.proofs.piece_at.Met as piece_at
use Rattle.turns.proofs.place_behind.Met as place_behind
use Rattle.turns.proofs.Turns.over.Met as over
use Rattle.turns.proofs.Turns.next.Met as next
use Rattle.turns.proofs.Turns.moved.Met as moved
use Rattle.turns.proofs.Turns.behind.Met as behind
use Rattle.turns.proofs.Turns.first.Met as first
use Rattle.cues.proofs.add_cue.Met as add_cue
use Rattle.cues.proofs.code_of.Met as code_of
use Rattle.ports.proofs.night_fresh.Met as night_fresh
use Rattle.ports.proofs.night_sound.Met as night_sound
use Rattle.ports.proofs.night_turn.Met as night_turn
use Rattle.ports.proofs.night_log_entry.Met as night_log_entry
use Rattle.ports.proofs.night_agree.Met as night_agree
use Rattle.ports.proofs.night_longer.Met as night_longer
use Rattle.ports.proofs.night_add_cue.Met as night_add_cue
use Rattle.ports.proofs.night_code_of.Met as night_code_of
use Rattle.promises.specs.Promise.{Call, Keeps, Seen, Given, Equals}
use Rattle.promises.specs.Calls as calls

-- the law, for a promise that is an equation
pub equals : {T : Ended} {call : Call} {O : Type 0} {seen : Seen T O} {given : Given T O}
    → Keeps T call (λ κs a r x. seen κs r x ≡ given κs a) → Equals T call seen given
equals met = record { keeps = met; once = λ κs a r r' x x' p q. p ∙ sym q }

-- a reply with the tables afterwards
outcome_once : (before : List Rack) {o : Outcome} (r r' : calls.Replied (List Rack)) (cells logs decisions cells' logs' decisions' : List ℕ)
    → outcome (reply_number r) cells logs decisions (reply_or before r) ≡ o
    → outcome (reply_number r') cells' logs' decisions' (reply_or before r') ≡ o
    → ◌≡◌ {A = calls.Replied (List Rack) × calls.Lent} (r, (cells, (logs, decisions))) (r', (cells', (logs', decisions')))
outcome_once before r r' cells logs decisions cells' logs' decisions' p q =
    let e = p ∙ sym q in
    let reply = same_reply before r r' (ap (λ (o : Outcome). o.number) e) (ap (λ (o : Outcome). o.card.racks) e) in
    λ i. (reply i, ((e i).card.tables.cells.bytes, ((e i).card.tables.logs.bytes, (e i).card.tables.decisions)))

pub fresh_once : calls.Fresh
fresh_once = record { keeps = λ M. fresh.met; once = λ κs a r r' x x' p q. outcome_once _ r r' _ _ _ _ _ _ p q }

pub sound_once : calls.Sound
sound_once = record { keeps = λ M. sound.met; once = λ κs a r r' x x' p q. same_reply tt r r' (p ∙ sym q) refl }

pub turn_once : calls.Turn
turn_once = record { keeps = λ M. turn.met; once = λ κs a r r' x x' p q. outcome_once _ r r' _ _ _ _ _ _ p q }

-- the answer, and with it the document's number and values, which are a function of it
pub log_entry_once : calls.LogEntry
log_entry_once = record { keeps = λ M. log_entry.met; once = λ κs a r r' x x' p q. same_answer r r' (p.1 ∙ sym q.1) }

pub agree_once : calls.Agree
agree_once = equals (λ M. compare_agree.met)

-- the log itself: where it begins
itself_once : (a b r r' : Bor (List ℕ)) → r ≡ longer_itself a b → r' ≡ longer_itself a b → r.ref_ptr ≡ r'.ref_ptr
itself_once a b r r' p q = ap (λ (x : Bor (List ℕ)). x.ref_ptr) (p ∙ sym q)

pub longer_once : calls.Longer
longer_once = record {
  keeps = λ M. compare_longer.met;
  once = λ κs a r r' x x' p q i. ((p.0 ∙ sym q.0) i, itself_once a.0 a.1.0 r r' p.1 q.1 i);
}

pub piece_at_once : calls.PieceAt
piece_at_once = equals (λ M. piece_at.met)

pub place_behind_once : calls.PlaceBehind
place_behind_once = equals (λ M. place_behind.met)

pub next_once : calls.Next
next_once = equals (λ M. next.met)

pub first_once : calls.First
first_once = equals (λ M. first.met)

-- two readers of the same bytes at one place are one
reader_once : (bytes : Bor (List ℕ)) (at : ℕ) (r r' : Turns) → calls.IsReader r bytes at → calls.IsReader r' bytes at → r ≡ r'
reader_once bytes at r r' p q = λ i. record { bytes = (p.0 ∙ sym q.0) i; at = (p.1 ∙ sym q.1) i }

pub over_once : calls.Over
over_once = record { keeps = λ M. over.met; once = λ κs a r r' x x' p q. reader_once _ _ r r' p q }

pub moved_once : calls.Moved
moved_once = record { keeps = λ M. moved.met; once = λ κs a r r' x x' p q. reader_once _ _ r r' p q }

pub behind_once : calls.Behind
behind_once = record { keeps = λ M. behind.met; once = λ κs a r r' x x' p q. reader_once _ _ r r' p q }

pub add_cue_once : calls.AddCue
add_cue_once = record {
  keeps = λ M. add_cue.met;
  once = λ κs a r r' x x' p q.
      let e = p ∙ sym q in
      λ i. (same_reply tt r r' (ap (λ (l : Listed). l.number) e) refl i, (e i).lists);
}

pub code_of_once : calls.CodeOf
code_of_once = record { keeps = λ M. code_of.met; once = λ κs a r r' x x' p q. same_answer r r' (p.1 ∙ sym q.1) }

pub night_fresh_once : calls.NightFresh
night_fresh_once = equals (λ M. night_fresh.met)

pub night_sound_once : calls.NightSound
night_sound_once = equals (λ M. night_sound.met)

pub night_turn_once : calls.NightTurn
night_turn_once = equals (λ M. night_turn.met)

pub night_log_entry_once : calls.NightLogEntry
night_log_entry_once = equals (λ M. night_log_entry.met)

pub night_agree_once : calls.NightAgree
night_agree_once = equals (λ M. night_agree.met)

pub night_longer_once : calls.NightLonger
night_longer_once = equals (λ M. night_longer.met)

pub night_add_cue_once : calls.NightAddCue
night_add_cue_once = equals (λ M. night_add_cue.met)

pub night_code_of_once : calls.NightCodeOf
night_code_of_once = equals (λ M. night_code_of.met)
