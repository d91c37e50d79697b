-- What stands at a place says which records `pieces` lists from there on.
use mathlib.Core.Path.{◌≡◌, refl, ◌∙◌}
use mathlib.Core.List.{List, [], ◌∷◌}
use Rattle.std.specs.Prelude.{Option, Some, None}
use Prim.Native.Nat.{ℕ, ◌+◌, ◌-◌, ◌/◌, ◌≤◌, ◌<◌}
use native.Mathlib.Omega.{arith}
use native.Mathlib.Nat.{add-zero}
use borrow.Author.Tests.{le-leb, lt-leb, lt-ltb, le-ltb}
use lib.ListN.{length, get_or, take, drop, length-drop, drop_of_length-le}
use lib.Seq.{take_all, get_or-drop, drop-drop}
use Rattle.laws.proofs.Cases.{either, lt_or_ge}
use Rattle.model.specs.declared.Turn.{Turn}
use Rattle.model.specs.declared.Piece.{Piece}
use Rattle.model.specs.declared.Piece.TheVariants.{Whole, Short}
use Rattle.model.specs.Night.{piece_at, pieces}
use Rattle.turns.specs.Walk.{turn_bytes}

-- no bytes have no records
pub pieces_none : (bytes : List ℕ) (at : ℕ) → length bytes ≤ at → pieces (drop at bytes) ≡ []
unfolding pieces
pieces_none bytes at h = rw (drop_of_length-le bytes h)

-- the first record of some bytes
pub first : (l : List ℕ) → 0 < length l → pieces l ≡ take 4 l ∷ pieces (drop 4 l)
unfolding pieces
first [] h = absurd (omega arith)
first (a ∷ []) h = refl
first (a ∷ b ∷ []) h = refl
first (a ∷ b ∷ c ∷ []) h = refl
first (a ∷ b ∷ c ∷ d ∷ l) h = refl

first_short : (l : List ℕ) → 0 < length l → length l < 4 → pieces l ≡ l ∷ []
first_short l h g = first l h ∙ rw (take_all 4 l (omega arith), pieces_none l 4 (omega arith))

first_whole : (l : List ℕ) → 4 ≤ length l → pieces l ≡ (get_or l 0 0 ∷ get_or l 1 0 ∷ get_or l 2 0 ∷ get_or l 3 0 ∷ []) ∷ pieces (drop 4 l)
unfolding pieces
first_whole [] h = absurd (omega arith)
first_whole (a ∷ []) h = absurd (omega arith)
first_whole (a ∷ b ∷ []) h = absurd (omega arith)
first_whole (a ∷ b ∷ c ∷ []) h = absurd (omega arith)
first_whole (a ∷ b ∷ c ∷ d ∷ l) h = refl

-- what a piece that stands at a place says of the place and of the pieces from there on
pub record WholeFrom (bytes : List ℕ) (place : ℕ) (t : Turn) (next : ℕ) : Type 0 where
  pub step : next ≡ place + 4
  pub inside : next ≤ length bytes
  pub front : pieces (drop place bytes) ≡ turn_bytes t ∷ pieces (drop next bytes)

pub record ShortFrom (bytes : List ℕ) (place left : ℕ) : Type 0 where
  pub some : 0 < left
  pub few : left < 4
  pub inside : place + left ≡ length bytes
  pub all : pieces (drop place bytes) ≡ drop place bytes ∷ []

pub record EndFrom (bytes : List ℕ) (place : ℕ) : Type 0 where
  pub past : length bytes ≤ place
  pub none : pieces (drop place bytes) ≡ []

-- each piece with what it says
abbrev Says : List ℕ → ℕ → Option Piece → Type 0
Says bytes place (Some (Whole t next)) = WholeFrom bytes place t next
Says bytes place (Some (Short left)) = ShortFrom bytes place left
Says bytes place None = EndFrom bytes place

module _ (bytes : List ℕ) (place : ℕ) where
  at_end : length bytes ≤ place → Says bytes place (piece_at bytes place)
  unfolding piece_at
  at_end h = rw (le-leb (length bytes) place h) (record { past = h; none = pieces_none bytes place h })

  at_short : place < length bytes → length bytes - place < 4 → Says bytes place (piece_at bytes place)
  unfolding piece_at
  at_short h g =
      let e = length-drop place bytes in
      rw (lt-leb (length bytes) place h, lt-ltb (length bytes - place) 4 g)
      (record { some = omega arith; few = g; inside = omega arith; all = first_short (drop place bytes) (omega arith) (omega arith) })

  at_whole : place < length bytes → 4 ≤ length bytes - place → Says bytes place (piece_at bytes place)
  unfolding piece_at
  at_whole h g =
      let e = length-drop place bytes in
      let f = first_whole (drop place bytes) (omega arith) in
      rw (lt-leb (length bytes) place h, le-ltb (length bytes - place) 4 g)
      (record { step = refl; inside = omega arith; front = f ∙ simp (get_or-drop, drop-drop, add-zero) })

  says : Says bytes place (piece_at bytes place)
  says =
      either (lt_or_ge place (length bytes))
      (λ h. either (lt_or_ge (length bytes - place) 4) (λ g. at_short h g) (λ g. at_whole h g))
      (λ h. at_end h)

  pub whole_from : (t : Turn) (next : ℕ) → piece_at bytes place ≡ Some (Whole t next) → WholeFrom bytes place t next
  whole_from t next e = rw e at says

  pub short_from : (left : ℕ) → piece_at bytes place ≡ Some (Short left) → ShortFrom bytes place left
  short_from left e = rw e at says

  pub end_from : piece_at bytes place ≡ None → EndFrom bytes place
  end_from e = rw e at says

-- how many records bytes have
pub pieces_count : (bytes : List ℕ) → length (pieces bytes) ≡ (length bytes + 3) / 4
unfolding pieces
pieces_count [] = refl
pieces_count (a ∷ []) = refl
pieces_count (a ∷ b ∷ []) = refl
pieces_count (a ∷ b ∷ c ∷ []) = refl
pieces_count (a ∷ b ∷ c ∷ d ∷ l) = omega (arith, pieces_count l)
