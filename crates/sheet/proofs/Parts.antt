-- How many records a part has at most.
use mathlib.Core.Path.{◌≡◌}
use mathlib.Core.List.{List}
use Prim.Native.Nat.{ℕ, ◌≤◌}
use native.Mathlib.Omega.{arith}
use lib.ListN.{length, take}
use lib.Seq.{length-take-le}
use Rattle.model.specs.Night.{pieces}
use Rattle.turns.proofs.Pieces.{pieces_count}

pub part_few : (count : ℕ) (bytes : List ℕ) → count ≤ length bytes → length bytes ≤ 2048 → length (pieces (take count bytes)) ≤ 512
part_few count bytes h e = omega (arith, pieces_count (take count bytes), length-take-le count bytes h)

-- the library's `length-take-le`, under a name that an attribute can cite
pub part_length : (n : ℕ) (l : List ℕ) → n ≤ length l → length (take n l) ≡ n
part_length n l h = length-take-le n l h
