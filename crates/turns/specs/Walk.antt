-- "A reader walks the bytes with its own place in them": what it gives out at a place, and where it goes on.
use Rattle.std.specs.Prelude.{List, [], ◌∷◌, ◌++◌, ℕ, zero, suc, ◌+◌, take, drop, Option, Some, None}
use Rattle.model.specs.declared.Turn.{Turn}
use Rattle.model.specs.declared.Piece.{Piece}
use Rattle.model.specs.declared.Piece.TheVariants.{Whole, Short}
use Rattle.model.specs.Night.{piece_at}

-- a turn as the four bytes of its record
abbrev pub turn_bytes : Turn → List ℕ
turn_bytes t = t.rack ∷ t.lane ∷ t.source ∷ t.zero ∷ []

-- the place behind a piece that stands at a place; the end stays where it is
abbrev pub place_behind : ℕ → Option Piece → ℕ
place_behind at (Some (Whole t next)) = next
place_behind at (Some (Short left)) = at + left
place_behind at None = at

-- the record that a piece at a place gives out; the end gives out none
abbrev pub given_out : List ℕ → ℕ → Option Piece → List (List ℕ)
given_out bytes at (Some (Whole t next)) = turn_bytes t ∷ []
given_out bytes at (Some (Short left)) = take left (drop at bytes) ∷ []
given_out bytes at None = []

-- a walk from a place, `next`, `behind`, `next`, `behind`, ..: the records that so many calls of `next` give out, one after the other
unfoldable pub walk : List ℕ → ℕ → ℕ → List (List ℕ)
walk bytes at zero = []
walk bytes at (suc calls) =
    let piece = piece_at bytes at in given_out bytes at piece ++ walk bytes (place_behind at piece) calls

-- and the reader's place after them
unfoldable pub place_after : List ℕ → ℕ → ℕ → ℕ
place_after bytes at zero = at
place_after bytes at (suc calls) = place_after bytes (place_behind at (piece_at bytes at)) calls
