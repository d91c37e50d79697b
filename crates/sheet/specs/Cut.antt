-- What the program knows of cues.rec when it has read its first bytes.
use Rattle.std.specs.Prelude.{◌≡◌, List, ℕ, ◌≤◌, length, take}
use Rattle.model.specs.Night.{pieces}
use Rattle.model.specs.Sheet.{Loaded, load_cues}
use Rattle.tell.specs.Cut.{cues_read}

-- some bytes were read, and whatever file they are the first ones of, what was loaded is what all its cues give
pub record CuesOf (n k : ℕ) (lists : List ℕ) (loaded : Loaded) : Type 0 where
  pub bytes : List ℕ
  pub few : length bytes ≤ cues_read
  pub all : (file : List ℕ) → take cues_read file ≡ bytes → loaded ≡ load_cues n k lists 0 (pieces file)
