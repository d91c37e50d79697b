-- What each public call promises. A call's arguments stand in a pattern in the order of its signature, and so do its parameters at exit.
use Rattle.std.specs.Prelude.{◌≡◌, List, ℕ, Result, replicate}
use Rattle.std.specs.Borrow.{Bor}
use prog.Wired.{Code}
use mir.Syntax.{Callee}
use Rattle.model.specs.declared.Size.{Size}
use Rattle.model.specs.declared.Rack.{Rack}
use Rattle.model.specs.declared.Refusal.{Refusal}
use Rattle.model.specs.InUse.{logs_of, tables_of, card_of, outcome}
use Rattle.model.specs.Turn.{turned, soundness}
use Rattle.model.specs.Fresh.{zero_rack, filled}
use Rattle.model.specs.Record.{no_cue}
use Rattle.model.specs.Refusal.{numbered, reply_number, reply_or}
use Rattle.model.specs.Logs.{queried, log_entry, agree, longer}
use Rattle.model.specs.Cues.{Listed, add_cue, coded, code_of}
use Rattle.model.specs.Night.{piece_at}
use Rattle.compare.specs.Itself.{longer_itself}
use Rattle.turns.specs.declared.Turns.{Turns}
use Rattle.turns.specs.Walk.{place_behind}
use Rattle.ports.specs.Told.{entry_told, agree_told, longer_told, code_told}
use Rattle.fresh.specs.contracts.fresh as fresh
use Rattle.card.specs.contracts.sound as sound
use Rattle.card.specs.contracts.turn as turn
use Rattle.entry.specs.contracts.log_entry as log_entry_call
use Rattle.compare.specs.contracts.agree as compare_agree
use Rattle.compare.specs.contracts.longer as compare_longer
use Rattle.turns.specs.contracts.piece_at as piece_at_call
use Rattle.turns.specs.contracts.place_behind as place_behind_call
use Rattle.turns.specs.contracts.Turns.over as over
use Rattle.turns.specs.contracts.Turns.next as next
use Rattle.turns.specs.contracts.Turns.moved as moved
use Rattle.turns.specs.contracts.Turns.behind as behind
use Rattle.turns.specs.contracts.Turns.first as first
use Rattle.cues.specs.contracts.add_cue as add_cue_call
use Rattle.cues.specs.contracts.code_of as code_of_call
use Rattle.ports.specs.contracts.night_fresh as night_fresh
use Rattle.ports.specs.contracts.night_sound as night_sound
use Rattle.ports.specs.contracts.night_turn as night_turn
use Rattle.ports.specs.contracts.night_log_entry as night_log_entry
use Rattle.ports.specs.contracts.night_agree as night_agree
use Rattle.ports.specs.contracts.night_longer as night_longer
use Rattle.ports.specs.contracts.night_add_cue as night_add_cue
use Rattle.ports.specs.contracts.night_code_of as night_code_of
use Rattle.fresh.proofs.fresh as fresh_proved
use Rattle.card.proofs.sound as sound_proved
use Rattle.card.proofs.turn as turn_proved
use Rattle.entry.proofs.log_entry as log_entry_proved
use Rattle.compare.proofs.agree as compare_agree_proved
use Rattle.compare.proofs.longer as compare_longer_proved
use Rattle.turns.proofs.piece_at as piece_at_proved
use Rattle.turns.proofs.place_behind as place_behind_proved
use Rattle.turns.proofs.Turns.over as over_proved
use Rattle.turns.proofs.Turns.next as next_proved
use Rattle.turns.proofs.Turns.moved as moved_proved
use Rattle.turns.proofs.Turns.behind as behind_proved
use Rattle.turns.proofs.Turns.first as first_proved
use Rattle.cues.proofs.add_cue as add_cue_proved
use Rattle.cues.proofs.code_of as code_of_proved
use Rattle.ports.proofs.night_fresh as night_fresh_proved
use Rattle.ports.proofs.night_sound as night_sound_proved
use Rattle.ports.proofs.night_turn as night_turn_proved
use Rattle.ports.proofs.night_log_entry as night_log_entry_proved
use Rattle.ports.proofs.night_agree as night_agree_proved
use Rattle.ports.proofs.night_longer as night_longer_proved
use Rattle.ports.proofs.night_add_cue as night_add_cue_proved
use Rattle.ports.proofs.night_code_of as night_code_of_proved
use Rattle.promises.specs.Promise.{Call, Promises, Equals}

abbrev pub call : Code → Callee → Call
call code name = record { code = code; name = name }

abbrev Bytes : Type 0
Bytes = Bor (List ℕ)

-- what a reply hands back, and the bytes of the three tables
abbrev pub Replied : Type 0 → Type 0
Replied A = Result A Refusal

abbrev pub Lent : Type 0
Lent = List ℕ × (List ℕ × List ℕ)

-- all tables: the reply with the racks, and the three tables afterwards
abbrev pub Fresh : Type 2
Fresh =
    Promises fresh.ended (call fresh_proved.Symbol.code fresh_proved.Symbol.name) {O = Replied (List Rack) × Lent}
    (λ κs (size, (cells_before, (logs_before, (decisions_before, _)))) r (_, (cells, (logs, (decisions, _)))).
    outcome (reply_number r) cells.now logs.now decisions.now (reply_or (replicate 8 zero_rack) r)
    ≡ filled size (tables_of cells_before.now logs_before.now decisions_before.now))
    (λ κs r (_, (cells, (logs, (decisions, _)))). (r, (cells.now, (logs.now, decisions.now))))

abbrev pub Sound : Type 2
Sound =
    Promises sound.ended (call sound_proved.Symbol.code sound_proved.Symbol.name)
    (λ κs (size, (cells, (logs, (decisions, (racks, _))))) r x. reply_number r ≡ soundness size (card_of cells.now logs.now decisions.now racks))
    (λ κs r x. r)

abbrev pub Turn : Type 2
Turn =
    Promises turn.ended (call turn_proved.Symbol.code turn_proved.Symbol.name) {O = Replied (List Rack) × Lent}
    (λ κs (size, (cells_before, (logs_before, (decisions_before, (racks, (bytes, _)))))) r (_, (cells, (logs, (decisions, _)))).
    outcome (reply_number r) cells.now logs.now decisions.now (reply_or racks r)
    ≡ turned size (card_of cells_before.now logs_before.now decisions_before.now racks) bytes.now)
    (λ κs r (_, (cells, (logs, (decisions, _)))). (r, (cells.now, (logs.now, decisions.now))))

-- logs
abbrev pub LogEntry : Type 2
LogEntry =
    Promises log_entry_call.ended (call log_entry_proved.Symbol.code log_entry_proved.Symbol.name)
    (λ κs (size, (logs, (rack, (lane, (place, _))))) r x.
    (record { number = reply_number r; cue = reply_or no_cue r } ≡ queried size (logs_of logs.now) rack lane place)
    × (numbered r ≡ log_entry size (logs_of logs.now) rack lane place))
    (λ κs r x. r)

abbrev pub Agree : Type 2
Agree = Equals compare_agree.ended (call compare_agree_proved.Symbol.code compare_agree_proved.Symbol.name) (λ κs r x. r) (λ κs (a, (b, _)). agree a.now b.now)

-- the bytes handed back, and where they begin: the log itself
abbrev pub Longer : Type 2
Longer =
    Promises compare_longer.ended (call compare_longer_proved.Symbol.code compare_longer_proved.Symbol.name) {O = List ℕ × (ℕ × ℕ)}
    (λ κs (a, (b, _)) r x. (r.now ≡ longer a.now b.now) × (r ≡ longer_itself a b))
    (λ κs r x. (r.now, r.ref_ptr))

-- turn records
abbrev pub PieceAt : Type 2
PieceAt = Equals piece_at_call.ended (call piece_at_proved.Symbol.code piece_at_proved.Symbol.name) (λ κs r x. r) (λ κs (bytes, (at, _)). piece_at bytes.now at)

abbrev pub PlaceBehind : Type 2
PlaceBehind =
    Equals place_behind_call.ended (call place_behind_proved.Symbol.code place_behind_proved.Symbol.name) (λ κs r x. r) (λ κs (bytes, (at, _)). place_behind at (piece_at bytes.now at))

abbrev pub Next : Type 2
Next = Equals next.ended (call next_proved.Symbol.code next_proved.Symbol.name) (λ κs r x. r) (λ κs (turns, _). piece_at turns.bytes.now turns.at)

abbrev pub First : Type 2
First = Equals first.ended (call first_proved.Symbol.code first_proved.Symbol.name) (λ κs r x. r) (λ κs (bytes, _). piece_at bytes.now 0)

-- a reader handed back: its bytes themselves, as a reference, and its place
abbrev pub IsReader : Turns → Bytes → ℕ → Type 0
IsReader r bytes at = (r.bytes ≡ bytes) × (r.at ≡ at)

abbrev pub Over : Type 2
Over = Promises over.ended (call over_proved.Symbol.code over_proved.Symbol.name) (λ κs (bytes, _) r x. IsReader r bytes 0) (λ κs r x. r)

abbrev pub Moved : Type 2
Moved = Promises moved.ended (call moved_proved.Symbol.code moved_proved.Symbol.name) (λ κs (turns, (at, _)) r x. IsReader r turns.bytes at) (λ κs r x. r)

abbrev pub Behind : Type 2
Behind =
    Promises behind.ended (call behind_proved.Symbol.code behind_proved.Symbol.name)
    (λ κs (turns, _) r x. IsReader r turns.bytes (place_behind turns.at (piece_at turns.bytes.now turns.at)))
    (λ κs r x. r)

-- cue lists: the reply and the lists afterwards
abbrev listed : ℕ → List ℕ → Listed
listed number lists = record { number = number; lists = lists }

abbrev pub AddCue : Type 2
AddCue =
    Promises add_cue_call.ended (call add_cue_proved.Symbol.code add_cue_proved.Symbol.name) {O = Replied (Unit {0}) × List ℕ}
    (λ κs (racks, (lanes, (lists_before, (cue, _)))) r (_, (_, (lists, _))). listed (reply_number r) lists.now ≡ add_cue racks lanes lists_before.now cue.now)
    (λ κs r (_, (_, (lists, _))). (r, lists.now))

abbrev pub CodeOf : Type 2
CodeOf =
    Promises code_of_call.ended (call code_of_proved.Symbol.code code_of_proved.Symbol.name)
    (λ κs (racks, (lanes, (lists, (rack, (lane, (number, _)))))) r x.
    (record { number = reply_number r; code = reply_or 0 r } ≡ coded racks lanes lists.now rack lane number)
    × (numbered r ≡ code_of racks lanes lists.now rack lane number))
    (λ κs r x. r)

-- what a firmware links: each promise is one of any call of that signature, and so of the call of `ports` and of its export
abbrev sized : ℕ → ℕ → ℕ → Size
sized n k rounds = record { racks = n; lanes = k; rounds = rounds }

abbrev pub NightFreshBy : Call → Type 2
NightFreshBy c =
    Equals night_fresh.ended c
    (λ κs r (n, (k, (rounds, (cells, (logs, (decisions, _)))))). outcome r.number cells.now logs.now decisions.now r.racks.rack)
    (λ κs (n, (k, (rounds, (cells, (logs, (decisions, _)))))). filled (sized n k rounds) (tables_of cells.now logs.now decisions.now))

abbrev pub NightFresh : Type 2
NightFresh = NightFreshBy (call night_fresh_proved.Symbol.code night_fresh_proved.Symbol.name)

abbrev pub NightSoundBy : Call → Type 2
NightSoundBy c =
    Equals night_sound.ended c (λ κs r x. r)
    (λ κs (n, (k, (rounds, (cells, (logs, (decisions, (racks, _))))))).
    soundness (sized n k rounds) (card_of cells.now logs.now decisions.now racks.rack))

abbrev pub NightSound : Type 2
NightSound = NightSoundBy (call night_sound_proved.Symbol.code night_sound_proved.Symbol.name)

abbrev pub NightTurnBy : Call → Type 2
NightTurnBy c =
    Equals night_turn.ended c
    (λ κs r (n, (k, (rounds, (cells, (logs, (decisions, _)))))). outcome r.number cells.now logs.now decisions.now r.racks.rack)
    (λ κs (n, (k, (rounds, (cells, (logs, (decisions, (racks, (bytes, _)))))))).
    turned (sized n k rounds) (card_of cells.now logs.now decisions.now racks.rack) bytes.now)

abbrev pub NightTurn : Type 2
NightTurn = NightTurnBy (call night_turn_proved.Symbol.code night_turn_proved.Symbol.name)

abbrev pub NightLogEntryBy : Call → Type 2
NightLogEntryBy c =
    Equals night_log_entry.ended c (λ κs r x. r)
    (λ κs (n, (k, (rounds, (logs, (rack, (lane, (place, _))))))). entry_told (log_entry (sized n k rounds) (logs_of logs.now) rack lane place))

abbrev pub NightLogEntry : Type 2
NightLogEntry = NightLogEntryBy (call night_log_entry_proved.Symbol.code night_log_entry_proved.Symbol.name)

abbrev pub NightAgreeBy : Call → Type 2
NightAgreeBy c =
    Equals night_agree.ended c (λ κs r x. r) (λ κs (a, (b, _)). agree_told (agree a.now b.now))

abbrev pub NightAgree : Type 2
NightAgree = NightAgreeBy (call night_agree_proved.Symbol.code night_agree_proved.Symbol.name)

abbrev pub NightLongerBy : Call → Type 2
NightLongerBy c =
    Equals night_longer.ended c (λ κs r x. r) (λ κs (a, (b, _)). longer_told a.now b.now)

abbrev pub NightLonger : Type 2
NightLonger = NightLongerBy (call night_longer_proved.Symbol.code night_longer_proved.Symbol.name)

abbrev pub NightAddCueBy : Call → Type 2
NightAddCueBy c =
    Equals night_add_cue.ended c
    (λ κs r (n, (k, (lists, _))). listed r lists.now)
    (λ κs (n, (k, (lists, (cue, _)))). add_cue n k lists.now cue.now)

abbrev pub NightAddCue : Type 2
NightAddCue = NightAddCueBy (call night_add_cue_proved.Symbol.code night_add_cue_proved.Symbol.name)

abbrev pub NightCodeOfBy : Call → Type 2
NightCodeOfBy c =
    Equals night_code_of.ended c (λ κs r x. r)
    (λ κs (n, (k, (lists, (rack, (lane, (cue, _)))))). code_told (code_of n k lists.now rack lane cue))

abbrev pub NightCodeOf : Type 2
NightCodeOf = NightCodeOfBy (call night_code_of_proved.Symbol.code night_code_of_proved.Symbol.name)
