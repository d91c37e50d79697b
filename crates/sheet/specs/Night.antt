-- What the program keeps true from one part of turns.rec to the next.
use Rattle.std.specs.Prelude.{◌≡◌, List, true, ℕ, ◌+◌, ◌≤◌, ◌<◌, ◌^◌, length}
use Rattle.model.specs.declared.Size.{Size}
use Rattle.model.specs.declared.Rack.{Rack}
use Rattle.model.specs.Size.{size_fits}
use Rattle.model.specs.InUse.{logs_length, logs_of}
use Rattle.model.specs.Table.{Tables, Card, rack_at}
use Rattle.model.specs.Sound.{sound_logs}
use Rattle.model.specs.Turn.{fits}
use Rattle.model.specs.Cues.{lists_fit}
use Rattle.steady.proofs.Turn.{Steady}

-- a card between two turns, and the counts of turns read and taken
pub record Played (s : Size) (card : Card) (read taken : ℕ) : Type 0 where
  pub steady : Steady s card
  pub fewer : taken ≤ read

-- what a part of turns.rec asks: room for its count
pub record PartReady (s : Size) (card : Card) (read taken : ℕ) : Type 0 where
  pub played : Played s card read taken
  pub few : read < 2 ^ 62

-- what a part of turns.rec leaves
pub record PartDone (s : Size) (card : Card) (before read taken : ℕ) : Type 0 where
  pub played : Played s card read taken
  pub near : read ≤ before + 512

-- what telling the logs of a rack asks
pub record RackReady (s : Size) (logs lists : List ℕ) (rack : ℕ) : Type 0 where
  pub fit : size_fits s ≡ true
  pub exact : length logs ≡ logs_length s
  pub ok : sound_logs s (logs_of logs) ≡ true
  pub lists_fit_is : lists_fit s.racks s.lanes lists ≡ true
  pub rack_there : rack < s.racks

-- what telling the logs asks
pub record LogsReady (s : Size) (logs lists : List ℕ) (racks : List Rack) : Type 0 where
  pub fit : size_fits s ≡ true
  pub exact : length logs ≡ logs_length s
  pub ok : sound_logs s (logs_of logs) ≡ true
  pub lists_fit_is : lists_fit s.racks s.lanes lists ≡ true
  pub started : (rack : ℕ) → rack < s.racks → 1 ≤ (rack_at racks rack).round

-- what playing and telling a night asks: tables that `fresh` fills, and cue lists that fit
pub record NightReady (s : Size) (t : Tables) (lists : List ℕ) : Type 0 where
  pub fit : fits s t ≡ true
  pub lists_fit_is : lists_fit s.racks s.lanes lists ≡ true
