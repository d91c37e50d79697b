-- A turn's record that is not bad, and a turn that is refused.
use mathlib.Core.Path.{◌≡◌}
use mathlib.Core.Logic.{◌≢◌}
use mathlib.Core.List.{List}
use mathlib.Core.Bool.{false, not, ◌||◌}
use Prim.Native.Nat.{ℕ, ◌<◌}
use borrow.Author.Tests.{eqb-true, ne_eqb, leb-false, not-false}
use lib.Dec.{eqb, leb}
use lib.ListN.{length, get_or}
use Rattle.laws.proofs.Cases.{or_false}
use Rattle.model.specs.declared.Size.{Size}
use Rattle.model.specs.Table.{Card}
use Rattle.model.specs.Turn.{bad_record, rack_of, refusal, turned}

-- a record that is not bad: four bytes, and a rack that is there
pub record Good (s : Size) (turn : List ℕ) : Type 0 where
  pub four : length turn ≡ 4
  pub there : rack_of turn < s.racks

pub good : (s : Size) (turn : List ℕ) → bad_record s turn ≡ false → Good s turn
unfolding bad_record
good s turn e =
    let a = or_false (not (eqb (length turn) 4)) (not (eqb (get_or turn 3 0) 0) || leb s.racks (rack_of turn)) e in
    let b = or_false (not (eqb (get_or turn 3 0) 0)) (leb s.racks (rack_of turn)) a.1 in
    record { four = eqb-true (length turn) 4 (not-false _ a.0); there = leb-false s.racks (rack_of turn) b.1 }

-- "A refusal returns its number and zeros; tables, states and lists stay as before."
pub turn_stays : (s : Size) (c : Card) (turn : List ℕ) → (turned s c turn).number ≢ 0 → (turned s c turn).card ≡ c
unfolding turned
turn_stays s c turn n = rw (ne_eqb (refusal s c turn) 0 n)
