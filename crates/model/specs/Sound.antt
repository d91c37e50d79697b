-- "Sound, with no look at history".
use Rattle.std.specs.Prelude.{List, Bool, cond, not, ◌&&◌, ◌||◌, ℕ, ◌+◌, ◌*◌, eqb, ltb, leb, get_or, drop}
use Rattle.laws.specs.Below.{below}
use Rattle.model.specs.declared.Size.{Size}
use Rattle.model.specs.declared.Cue.{Cue}
use Rattle.model.specs.declared.Value.{Value}
use Rattle.model.specs.declared.Cell.{Cell}
use Rattle.model.specs.declared.Rack.{Rack}
use Rattle.model.specs.Size.{within, records, leading, block_steps, round_steps}
use Rattle.model.specs.Form.{spare_at}
use Rattle.model.specs.Record.{no_cue, no_value, no_cell, is_empty, same_cue, same_value, same_cell, Cells, Logs, entry_at}
use Rattle.model.specs.Table.{Tables, Card, offers, first_cells, second_cells, log_start, log_length, undecided, no_lane, decision_at, rack_at, held_at, result_at, news_at, first_at, second_at, cell_now}
use Rattle.model.specs.Kind.{lane_at, steps_in, firsts_read, seconds_read}

-- "marks fit their section (0 or 1; 0 or 1; 0, 2 or 3)": those of a cell that is not empty
unfoldable pub mark_fits : ℕ → ℕ → Bool
mark_fits section mark = cond (eqb section second_cells) (eqb mark 2 || eqb mark 3) (eqb mark 1)

-- "Unused .. lanes are zeros."
unfoldable pub unused_lane : Rack → ℕ → Bool
unused_lane r lane = same_value (held_at r lane) no_value && (same_cell (result_at r lane) no_cell && same_value (news_at r lane) no_value)

-- "Unused racks .. are zeros."
unfoldable pub unused_rack : Rack → Bool
unused_rack r =
    (eqb r.round 0 && (eqb r.step 0 && eqb r.first 0))
    && (below 8 (λ i. same_cell (first_at r i) no_cell && same_cell (second_at r i) no_cell) && below 4 (unused_lane r))

module _ (s : Size) where
  -- "issuers are below n, number is 1 to R + 1"
  unfoldable pub sound_cue : Cue → Bool
  sound_cue c = ltb c.issuer s.racks && within 1 (s.rounds + 1) c.number

  -- "in a value place is at most R, .. and the previous pair keeps the same ranges, but is 0 and 0 exactly at place 0"
  unfoldable pub sound_value : Value → Bool
  sound_value v =
      leb v.place s.rounds
      && (sound_cue v.cue && cond (eqb v.place 0) (same_cue v.previous no_cue) (sound_cue v.previous))

  -- "records marked 0 are all zeros"
  unfoldable pub sound_cell : ℕ → Cell → Bool
  sound_cell section c = cond (is_empty c) (same_value c.value no_value) (mark_fits section c.mark && sound_value c.value)

  -- a record of the cell table: "and spare bytes are zero"
  unfoldable pub sound_record : Cells → ℕ → ℕ → Bool
  sound_record cells section i =
      let bytes = drop (cells.form.width * i) cells.bytes in
      sound_cell section (cells.form.read bytes) && cells.form.spare bytes

  unfoldable pub sound_section : Cells → ℕ → Bool
  sound_section cells section = below (records s) (λ i. sound_record cells section (section * records s + i))

  unfoldable pub sound_cells : Cells → Bool
  sound_cells cells = sound_section cells offers && (sound_section cells first_cells && sound_section cells second_cells)

  -- "decisions are 255 or below n"
  unfoldable pub sound_decisions : List ℕ → Bool
  sound_decisions decisions =
      below (s.rounds * s.lanes) (λ i. eqb (get_or decisions i 0) undecided || ltb (get_or decisions i 0) s.racks)

  -- "used entries have issuer below n and number 1 to R + 1, unused ones are zero", "and spare bytes are zero" where a form has any
  unfoldable pub sound_entries : Logs → ℕ → ℕ → Bool
  sound_entries logs start length =
      below s.rounds (λ i.
      cond (ltb i length) (sound_cue (entry_at logs (start + i))) (same_cue (entry_at logs (start + i)) no_cue) && spare_at logs (start + i))

  unfoldable pub sound_log : Logs → ℕ → ℕ → Bool
  sound_log logs rack lane = sound_entries logs (log_start s rack lane) (log_length s logs rack lane)

  unfoldable pub sound_logs : Logs → Bool
  sound_logs logs = below s.racks (λ rack. below s.lanes (λ lane. sound_log logs rack lane))

  -- "round is 1 to R + 1, with step 0 at R + 1; step is below 2 + k(2n + 2)"
  unfoldable pub sound_clock : Rack → Bool
  sound_clock r =
      within 1 (s.rounds + 1) r.round
      && ((leb r.round s.rounds || eqb r.step 0) && ltb r.step (round_steps s))

  -- "first lane is below k when step is 2 or more, else 255"
  unfoldable pub sound_first : Rack → Bool
  sound_first r = cond (ltb r.step leading) (eqb r.first no_lane) (ltb r.first s.lanes)

  -- "gathered cells are sound for their section, and empty if not yet read"
  unfoldable pub sound_gathered : Rack → Bool
  sound_gathered r =
      below 8 (λ i. cond (ltb i (firsts_read s r)) (sound_cell first_cells (first_at r i)) (same_cell (first_at r i) no_cell))
      && below 8 (λ i. cond (ltb i (seconds_read s r)) (sound_cell second_cells (second_at r i)) (same_cell (second_at r i) no_cell))

  -- "a rack's first lane is decided, for a source whose offer there is not empty"
  unfoldable pub sound_choice : Cells → List ℕ → Rack → Bool
  sound_choice cells decisions r =
      let source = decision_at s decisions r.round r.first in
      ltb r.step leading
      || (not (eqb source undecided) && not (is_empty (cell_now s cells r offers r.first source)))

  module _ (cells : Cells) (rack : ℕ) (r : Rack) where
    -- "what it read back from itself equals them"
    unfoldable pub sound_read_back : Bool
    sound_read_back =
        (leb (firsts_read s r) rack || same_cell (first_at r rack) (cell_now s cells r first_cells (lane_at s r) rack))
        && (leb (seconds_read s r) rack || same_cell (second_at r rack) (cell_now s cells r second_cells (lane_at s r) rack))

    -- "in its present round the cells a rack has written hold a value"
    unfoldable pub sound_written : ℕ → Bool
    sound_written lane =
        (ltb r.step 1 || not (is_empty (cell_now s cells r offers lane rack)))
        && ((ltb (steps_in s r lane) 1 || not (is_empty (cell_now s cells r first_cells lane rack)))
        && (ltb (steps_in s r lane) (s.racks + 2) || not (is_empty (cell_now s cells r second_cells lane rack))))

  -- "each lane it has finished has a result and news, each other lane neither"
  unfoldable pub sound_outcome : Rack → ℕ → Bool
  sound_outcome r lane =
      cond (eqb (steps_in s r lane) (block_steps s))
      (not (is_empty (result_at r lane)) && (sound_cell second_cells (result_at r lane) && sound_value (news_at r lane)))
      (same_cell (result_at r lane) no_cell && same_value (news_at r lane) no_value)

  -- "held place equals log length"
  unfoldable pub sound_held : Logs → ℕ → Rack → ℕ → Bool
  sound_held logs rack r lane = sound_value (held_at r lane) && eqb (held_at r lane).place (log_length s logs rack lane)

  unfoldable pub sound_lane : Cells → Logs → ℕ → Rack → ℕ → Bool
  sound_lane cells logs rack r lane =
      cond (ltb lane s.lanes)
      (sound_written cells rack r lane && (sound_outcome r lane && sound_held logs rack r lane))
      (unused_lane r lane)

  unfoldable pub sound_rack : Tables → ℕ → Rack → Bool
  sound_rack t rack r =
      sound_clock r
      && (sound_first r
      && (sound_gathered r
      && (sound_choice t.cells t.decisions r
      && (sound_read_back t.cells rack r && below 4 (sound_lane t.cells t.logs rack r)))))

  -- one of the eight
  unfoldable pub sound_state : Tables → ℕ → Rack → Bool
  sound_state t rack r = cond (ltb rack s.racks) (sound_rack t rack r) (unused_rack r)

  unfoldable pub sound_racks : Card → Bool
  sound_racks card = below 8 (λ rack. sound_state card.tables rack (rack_at card.racks rack))

  unfoldable pub sound_tables : Tables → Bool
  sound_tables t = sound_cells t.cells && (sound_decisions t.decisions && sound_logs t.logs)

  unfoldable pub sound : Card → Bool
  sound card = sound_tables card.tables && sound_racks card
