-- Where the record at a place ends, and which records are left from there on.
use mathlib.Core.Path.{◌≡◌, ap, ◌∙◌}
use mathlib.Core.List.{List, ◌∷◌}
use Prim.Native.Nat.{ℕ, suc, ◌+◌, ◌-◌, ◌≤◌, ◌<◌}
use native.Mathlib.Omega.{arith}
use borrow.Author.Tests.{lt-leb, lt-ltb, le-ltb}
use lib.ListN.{length, take, drop, length-drop, drop_of_length-le}
use lib.Seq.{take_all, drop-drop}
use Rattle.laws.proofs.Cases.{either, lt_or_ge}
use Rattle.model.specs.Night.{piece_at, pieces}
use Rattle.turns.specs.Walk.{place_behind}
use Rattle.turns.proofs.Pieces.{first}

-- where a record ends
pub record EndAt (length at end : ℕ) : Type 0 where
  pub later : at < end
  pub inside : end ≤ length
  pub near : end ≤ at + 4

module _ (bytes : List ℕ) (at end : ℕ) (h : at < length bytes) (e : end ≡ place_behind at (piece_at bytes at)) where
  pub end_at : EndAt (length bytes) at end
  unfolding piece_at
  end_at =
      either (lt_or_ge (length bytes - at) 4)
      (λ g. let f = rw (lt-leb (length bytes) at h, lt-ltb _ 4 g) at e in record { later = omega arith; inside = omega arith; near = omega arith })
      (λ g. let f = rw (lt-leb (length bytes) at h, le-ltb _ 4 g) at e in record { later = omega arith; inside = omega arith; near = omega arith })

  -- the record at a place, and those behind it
  pub pieces_next : pieces (drop at bytes) ≡ take (end - at) (drop at bytes) ∷ pieces (drop end bytes)
  unfolding piece_at
  pieces_next =
      let n = length-drop at bytes in
      let all = first (drop at bytes) (omega arith) in
      either (lt_or_ge (length bytes - at) 4)
      (λ g. let f = rw (lt-leb (length bytes) at h, lt-ltb _ 4 g) at e in
      all ∙ rw (
        drop-drop,
        take_all 4 (drop at bytes) (omega arith),
        take_all (end - at) (drop at bytes) (omega arith),
        drop_of_length-le bytes {i = at + 4} (omega arith),
        drop_of_length-le bytes {i = end} (omega arith),
      ))
      (λ g. let f = rw (lt-leb (length bytes) at h, le-ltb _ 4 g) at e in
      let d : end - at ≡ 4 = omega arith in
      all ∙ rw (drop-drop, d, f))

  -- each record counts one
  pub fewer : length (pieces (drop at bytes)) ≡ suc (length (pieces (drop end bytes)))
  fewer = ap length pieces_next
