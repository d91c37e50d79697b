-- The card as a view of a history: which bytes of the tables and which fields of the racks show which part of it. Rounds of a history count
-- from 0, those of the card from 1.
use Rattle.std.specs.Prelude.{◌≡◌, List, [], ◌∷◌, cond, ℕ, suc, ◌+◌, ◌≤◌, ◌<◌, eqb, get_or}
use Rattle.std.proofs.Math.Option.{Option, none, some}
use Rattle.model.specs.declared.Size.{Size}
use Rattle.model.specs.declared.Cue.{Cue}
use Rattle.model.specs.declared.Value.{Value}
use Rattle.model.specs.declared.Cell.{Cell}
use Rattle.model.specs.declared.Rack as card
use Rattle.model.specs.Size.{block_steps}
use Rattle.model.specs.Record.{no_cue, no_value, no_cell, offered, adopted, committed, entry_at, Logs}
use Rattle.model.specs.Table.{Card, offers, first_cells, second_cells, read_cell, log_start, log_length, undecided, no_lane, decision_at, rack_at, held_at, result_at, news_at, first_at, second_at}
use Rattle.model.specs.Kind.{lane_at}
use Rattle.model.specs.Turn.{rack_of, lane_named, source_named, turned}
use Rattle.protocol.specs.Object.{taken}
use Rattle.protocol.specs.AdoptCommit.{Marked}
use Rattle.protocol.specs.Edition.{result, news_of}
use Rattle.protocol.specs.FirstEdition.{first_edition}
use Rattle.protocol.specs.Log.{Log, start, ◌▷◌, size}
use Rattle.protocol.specs.History.{History, Turn, past_answer, has_offered, log_of}
use Rattle.protocol.specs.Clock.{step_of}

-- the cells of a first value and of a marked one, and the byte of a decision
abbrev pub first_of : Option Value → Cell
first_of none = no_cell
first_of (some v) = offered v

abbrev pub marked_cell : Marked → Cell
marked_cell m = cond m.committed (committed m.value) (adopted m.value)

abbrev pub second_of : Option Marked → Cell
second_of none = no_cell
second_of (some m) = marked_cell m

abbrev pub source_of : Option ℕ → ℕ
source_of none = undecided
source_of (some q) = q

-- the entry at a place of a log
abbrev pub entry_in : Log → ℕ → Cue
entry_in start place = no_cue
entry_in (l ▷ c) place = cond (eqb place (size l)) c (entry_in l place)

pub record LogView (s : Size) (logs : Logs) (rack lane : ℕ) (log : Log) : Type 0 where
  pub length : log_length s logs rack lane ≡ size log
  pub entries : (place : ℕ) → place < size log → entry_at logs (log_start s rack lane + place) ≡ entry_in log place

-- a rack's state
pub record RackView (s : Size) (h : History Marked) (q : ℕ) (r : card.Rack) : Type 0 where
  pub in_range : (h.racks q).finished ≤ s.rounds
  pub round : r.round ≡ suc (h.racks q).finished
  pub step : r.step ≡ step_of s.racks h q
  pub first : r.first ≡ cond (past_answer (h.racks q).phase) ((h.racks q).first (h.racks q).finished) no_lane
  pub firsts : (i : ℕ) → i < 8
      → first_at r i ≡ first_of (get_or ((h.objects (h.racks q).finished (lane_at s r)).firsts q).gathered i none)
  pub seconds : (i : ℕ) → i < 8
      → second_at r i ≡ second_of (get_or ((h.objects (h.racks q).finished (lane_at s r)).seconds q).gathered i none)
  pub held : (lane : ℕ) → lane < s.lanes → held_at r lane ≡ (h.racks q).held (h.racks q).finished lane
  -- "each lane it has finished has a result and news, each other lane neither"
  pub results : (lane : ℕ) → lane < s.lanes
      → let o = h.objects (h.racks q).finished lane in
      result_at r lane ≡ cond (eqb (taken o q) (block_steps s)) (marked_cell (result first_edition o q)) no_cell
  pub news : (lane : ℕ) → lane < s.lanes
      → let o = h.objects (h.racks q).finished lane in
      news_at r lane ≡ cond (eqb (taken o q) (block_steps s)) (news_of first_edition o q) no_value

pub record View (s : Size) (c : Card) (h : History Marked) : Type 0 where
  pub offers_shown : (r lane q : ℕ) → r < s.rounds → lane < s.lanes → q < s.racks
      → read_cell s c.tables.cells offers (suc r) lane q ≡ cond (has_offered (h.racks q) r) (offered ((h.racks q).held r lane)) no_cell
  pub firsts_shown : (r lane q : ℕ) → r < s.rounds → lane < s.lanes → q < s.racks
      → read_cell s c.tables.cells first_cells (suc r) lane q ≡ first_of ((h.objects r lane).firsts q).cell
  pub seconds_shown : (r lane q : ℕ) → r < s.rounds → lane < s.lanes → q < s.racks
      → read_cell s c.tables.cells second_cells (suc r) lane q ≡ second_of ((h.objects r lane).seconds q).cell
  pub decisions_shown : (r lane : ℕ) → r < s.rounds → lane < s.lanes
      → decision_at s c.tables.decisions (suc r) lane ≡ source_of (h.decided r lane)
  pub logs_shown : (q lane : ℕ) → q < s.racks → lane < s.lanes → LogView s c.tables.logs q lane (log_of h q lane)
  pub racks_shown : (q : ℕ) → q < s.racks → RackView s h q (rack_at c.racks q)

-- a turn record as a turn of the history
abbrev pub turn_of : List ℕ → Turn
turn_of turn = record { rack = rack_of turn; lane = lane_named turn; source = source_named turn }

-- the turns that the card takes
unfoldable pub moves_from : Size → Card → List (List ℕ) → List Turn
moves_from s c [] = []
moves_from s c (turn ∷ turns) =
    let o = turned s c turn in
    cond (eqb o.number 0) (turn_of turn ∷ moves_from s o.card turns) (moves_from s o.card turns)
