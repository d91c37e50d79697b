-- A reader that walks gives out the records that `pieces` lists, one after the other, a short last one once, and then the end.
use mathlib.Core.Path.{◌≡◌, refl, ap, ◌∙◌}
use mathlib.Core.List.{List, [], ◌++◌}
use Rattle.std.specs.Prelude.{Option, Some, None}
use Prim.Native.Nat.{ℕ, zero, suc, ◌+◌, ◌≤◌}
use native.Mathlib.Omega.{arith}
use borrow.Author.Tests.{le-leb}
use lib.ListN.{length, take, drop, length-drop}
use lib.Seq.{take_all}
use Rattle.model.specs.declared.Piece.{Piece}
use Rattle.model.specs.declared.Piece.TheVariants.{Whole, Short}
use Rattle.model.specs.Night.{piece_at, pieces}
use Rattle.turns.specs.Walk.{place_behind, given_out, walk, place_after}
use Rattle.turns.proofs.Pieces.{whole_from, short_from, end_from}

-- nothing stands at or past the end of the bytes
past_end : (bytes : List ℕ) (at : ℕ) → length bytes ≤ at → piece_at bytes at ≡ None
unfolding piece_at
past_end bytes at h = rw (le-leb (length bytes) at h)

module _ (bytes : List ℕ) (at : ℕ) where
  -- "a last piece under 4 bytes is given out once": behind it is the end
  pub short_once : (left : ℕ) → piece_at bytes at ≡ Some (Short left) → piece_at bytes (place_behind at (Some (Short left))) ≡ None
  short_once left e = let s = short_from bytes at left e in past_end bytes (at + left) (omega (arith, s.inside))

  -- one call more gives out one record more, if there is one
  one_more : (calls : ℕ) (piece : Option Piece) → piece_at bytes at ≡ piece
      → given_out bytes at piece ++ take calls (pieces (drop (place_behind at piece) bytes)) ≡ take (suc calls) (pieces (drop at bytes))
  one_more calls (Some (Whole t next)) e = rw (whole_from bytes at t next e).front
  one_more calls (Some (Short left)) e =
      let s = short_from bytes at left e in
      let n = length-drop at bytes in
      let last = end_from bytes (at + left) (short_once left e) in
      rw (s.all, last.none, take_all left (drop at bytes) (omega (arith, s.inside)))
  one_more calls None e =
      let nothing : take {A = List ℕ} calls [] ≡ [] = take_all calls [] (omega arith) in
      rw ((end_from bytes at e).none, nothing)

  -- and leaves one less
  one_less : (calls : ℕ) (piece : Option Piece) → piece_at bytes at ≡ piece → length (pieces (drop at bytes)) ≤ suc calls
      → length (pieces (drop (place_behind at piece) bytes)) ≤ calls
  one_less calls (Some (Whole t next)) e h = let n = ap length (whole_from bytes at t next e).front in omega arith
  one_less calls (Some (Short left)) e h = let n = ap length (end_from bytes (at + left) (short_once left e)).none in omega arith
  one_less calls None e h = let n = ap length (end_from bytes at e).none in omega arith

  -- where none is left is the end
  none_left : (piece : Option Piece) → piece_at bytes at ≡ piece → length (pieces (drop at bytes)) ≤ 0 → piece ≡ None
  none_left (Some (Whole t next)) e h = let n = ap length (whole_from bytes at t next e).front in absurd (omega arith)
  none_left (Some (Short left)) e h = let n = ap length (short_from bytes at left e).all in absurd (omega arith)
  none_left None e h = refl

-- from each place on
walk_from : (calls : ℕ) (bytes : List ℕ) (at : ℕ) → walk bytes at calls ≡ take calls (pieces (drop at bytes))
unfolding walk
walk_from zero bytes at = refl
walk_from (suc calls) bytes at =
    let piece = piece_at bytes at in
    ap (λ (l : List (List ℕ)). given_out bytes at piece ++ l) (walk_from calls bytes (place_behind at piece)) ∙ one_more bytes at calls piece refl

ends_from : (calls : ℕ) (bytes : List ℕ) (at : ℕ) → length (pieces (drop at bytes)) ≤ calls → piece_at bytes (place_after bytes at calls) ≡ None
unfolding place_after
ends_from zero bytes at h = none_left bytes at (piece_at bytes at) refl h
ends_from (suc calls) bytes at h =
    let piece = piece_at bytes at in ends_from calls bytes (place_behind at piece) (one_less bytes at calls piece refl h)

-- from the start on: so many calls give out so many of the records
pub walk_gives : (bytes : List ℕ) (calls : ℕ) → walk bytes 0 calls ≡ take calls (pieces bytes)
walk_gives bytes calls = walk_from calls bytes 0

-- enough calls give out all of them, each once ..
pub walk_all : (bytes : List ℕ) (calls : ℕ) → length (pieces bytes) ≤ calls → walk bytes 0 calls ≡ pieces bytes
walk_all bytes calls h = walk_gives bytes calls ∙ take_all calls (pieces bytes) h

-- .. and then comes the end, call after call
pub then_end : (bytes : List ℕ) (calls : ℕ) → length (pieces bytes) ≤ calls → piece_at bytes (place_after bytes 0 calls) ≡ None
then_end bytes calls h = ends_from calls bytes 0 h
