-- The products of the sizes are small, and each section of the cell table lies in it.
use mathlib.Core.Path.{◌≡◌}
use mathlib.Core.Bool.{true}
use Prim.Native.Nat.{◌+◌, ◌*◌, ◌≤◌, ◌<◌}
use native.Mathlib.Omega.{arith}
use Rattle.laws.proofs.Index.{rows_below}
use Rattle.model.specs.declared.Size.{Size}
use Rattle.model.specs.declared.Section.{Section}
use Rattle.model.specs.declared.Section.TheVariants.{Offers, FirstCells, SecondCells}
use Rattle.model.specs.Size.{size_fits, records, cell_records}
use Rattle.model.specs.InUse.{cells_length}
use Rattle.model.specs.Table.{section_of}
use Rattle.model.proofs.Sizes.{sizes, rows_most, records_most}

section_there : (section : Section) → section_of section < 3
section_there Offers = omega arith
section_there FirstCells = omega arith
section_there SecondCells = omega arith

-- the products of the sizes are small
pub record Small (s : Size) : Type 0 where
  pub rows : s.rounds * s.lanes ≤ 256
  pub all : records s ≤ 2048

pub small : (s : Size) → size_fits s ≡ true → Small s
small s fits = let z = sizes s fits in record { rows = rows_most s z; all = records_most s z }

pub section_inside : (s : Size) (section : Section) → 8 * (section_of section * records s + records s) ≤ cells_length s
unfolding cell_records
section_inside s section =
    let b = rows_below {i = section_of section} {k = 3} (records s) (section_there section) in
    omega arith
