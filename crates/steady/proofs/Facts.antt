-- "Sound, with no look at history", as named facts, a record for each sentence.
use mathlib.Core.Path.{◌≡◌}
use mathlib.Core.Logic.{◌⊎◌, ◌≢◌}
use mathlib.Core.Bool.{true, false}
use Prim.Native.Nat.{ℕ, ◌+◌, ◌≤◌, ◌<◌}
use Rattle.model.specs.declared.Size.{Size}
use Rattle.model.specs.declared.Value.{Value}
use Rattle.model.specs.declared.Cell.{Cell}
use Rattle.model.specs.declared.Rack.{Rack}
use Rattle.model.specs.Size.{block_steps, round_steps}
use Rattle.model.specs.Record.{no_value, no_cell, is_empty, Cells, Logs}
use Rattle.model.specs.Table.{Tables, Card, offers, first_cells, second_cells, log_length, undecided, no_lane, decision_at, rack_at, held_at, result_at, news_at, first_at, second_at, cell_now}
use Rattle.model.specs.Kind.{lane_at, steps_in, firsts_read, seconds_read}
use Rattle.model.specs.Sound.{sound_cell, sound_value, sound_cells, sound_decisions, sound_logs, unused_rack}

-- "round is 1 to R + 1, with step 0 at R + 1; step is below 2 + k(2n + 2)"
pub record Clock (s : Size) (round step : ℕ) : Type 0 where
  pub round_low : 1 ≤ round
  pub round_high : round ≤ s.rounds + 1
  pub resting : (round ≤ s.rounds) ⊎ (step ≡ 0)
  pub step_high : step < round_steps s

-- "first lane is below k when step is 2 or more, else 255"
pub record First (s : Size) (step first : ℕ) : Type 0 where
  pub none_yet : step < 2 → first ≡ no_lane
  pub named : 2 ≤ step → first < s.lanes

-- "gathered cells are sound for their section, and empty if not yet read": so many of each section
pub record Gathered (s : Size) (r : Rack) (firsts seconds : ℕ) : Type 0 where
  pub some_first : (i : ℕ) → i < 8 → i < firsts → sound_cell s first_cells (first_at r i) ≡ true
  pub no_first : (i : ℕ) → i < 8 → firsts ≤ i → first_at r i ≡ no_cell
  pub some_second : (i : ℕ) → i < 8 → i < seconds → sound_cell s second_cells (second_at r i) ≡ true
  pub no_second : (i : ℕ) → i < 8 → seconds ≤ i → second_at r i ≡ no_cell

-- "a rack's first lane is decided, for a source whose offer there is not empty"
pub record Chosen (s : Size) (t : Tables) (r : Rack) : Type 0 where
  pub decided : decision_at s t.decisions r.round r.first ≢ undecided
  pub offer : is_empty (cell_now s t.cells r offers r.first (decision_at s t.decisions r.round r.first)) ≡ false

-- "what it read back from itself equals them", in the lane at work
pub record ReadBack (s : Size) (cells : Cells) (rack : ℕ) (r : Rack) (firsts seconds lane : ℕ) : Type 0 where
  pub first_back : rack < firsts → first_at r rack ≡ cell_now s cells r first_cells lane rack
  pub second_back : rack < seconds → second_at r rack ≡ cell_now s cells r second_cells lane rack

-- "in its present round the cells a rack has written hold a value": those of a lane of whose block it has taken so many steps
pub record Written (s : Size) (cells : Cells) (rack : ℕ) (r : Rack) (lane steps : ℕ) : Type 0 where
  pub offer : 1 ≤ r.step → is_empty (cell_now s cells r offers lane rack) ≡ false
  pub first : 1 ≤ steps → is_empty (cell_now s cells r first_cells lane rack) ≡ false
  pub second : s.racks + 2 ≤ steps → is_empty (cell_now s cells r second_cells lane rack) ≡ false

-- "a result and news"
pub record Done (s : Size) (c : Cell) (v : Value) : Type 0 where
  pub full : is_empty c ≡ false
  pub result_sound : sound_cell s second_cells c ≡ true
  pub news_sound : sound_value s v ≡ true

-- "each lane it has finished has a result and news, each other lane neither"
pub record Outcome (s : Size) (r : Rack) (lane steps : ℕ) : Type 0 where
  pub done : steps ≡ block_steps s → Done s (result_at r lane) (news_at r lane)
  pub no_result : steps ≢ block_steps s → result_at r lane ≡ no_cell
  pub no_news : steps ≢ block_steps s → news_at r lane ≡ no_value

-- "held place equals log length"
pub record Held (s : Size) (logs : Logs) (rack : ℕ) (r : Rack) (lane : ℕ) : Type 0 where
  pub held_sound : sound_value s (held_at r lane) ≡ true
  pub held_place : (held_at r lane).place ≡ log_length s logs rack lane

-- "Unused .. lanes are zeros."
pub record Unused (r : Rack) (lane : ℕ) : Type 0 where
  pub no_held : held_at r lane ≡ no_value
  pub no_result : result_at r lane ≡ no_cell
  pub no_news : news_at r lane ≡ no_value

-- a used rack
pub record RackSound (s : Size) (t : Tables) (rack : ℕ) (r : Rack) : Type 0 where
  pub clock : Clock s r.round r.step
  pub first : First s r.step r.first
  pub gathered : Gathered s r (firsts_read s r) (seconds_read s r)
  pub choice : 2 ≤ r.step → Chosen s t r
  pub back : ReadBack s t.cells rack r (firsts_read s r) (seconds_read s r) (lane_at s r)
  pub written : (lane : ℕ) → lane < s.lanes → Written s t.cells rack r lane (steps_in s r lane)
  pub outcome : (lane : ℕ) → lane < s.lanes → Outcome s r lane (steps_in s r lane)
  pub held : (lane : ℕ) → lane < s.lanes → Held s t.logs rack r lane
  pub unused : (lane : ℕ) → lane < 4 → s.lanes ≤ lane → Unused r lane

-- a card
pub record CardSound (s : Size) (card : Card) : Type 0 where
  pub cells : sound_cells s card.tables.cells ≡ true
  pub decisions : sound_decisions s card.tables.decisions ≡ true
  pub logs : sound_logs s card.tables.logs ≡ true
  pub used : (rack : ℕ) → rack < 8 → rack < s.racks → RackSound s card.tables rack (rack_at card.racks rack)
  pub unused : (rack : ℕ) → rack < 8 → s.racks ≤ rack → unused_rack (rack_at card.racks rack) ≡ true
