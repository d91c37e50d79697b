-- What a function that writes text into a lent buffer leaves.
use Rattle.std.specs.Prelude.{List, ℕ, ◌+◌, ◌≤◌, length}
use Rattle.std.proofs.lemmas.List.Edits.{sets}
use Rattle.text.specs.Lines.{line_most}

-- the buffer's bytes, and the place behind the text
pub record Written : Type 0 where
  pub bytes : List ℕ
  pub place : ℕ

-- a text written from a place on
unfoldable pub write : List ℕ → ℕ → List ℕ → Written
write out at text = record { bytes = sets out at text; place = at + length text }

-- the bytes from a place on are enough for any line
abbrev pub RoomFrom : List ℕ → ℕ → Type 0
RoomFrom out at = at + line_most ≤ length out
