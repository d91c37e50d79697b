-- The products in the place of a cell, bounded: the record's place lies in the table, and nothing on the way to it wraps.
use mathlib.Core.Path.{◌≡◌, sym, subst}
use mathlib.Core.List.{List}
use Prim.Native.Nat.{ℕ, ◌+◌, ◌*◌, ◌-◌, ◌≤◌, ◌<◌}
use native.Mathlib.Omega.{arith}
use native.Mathlib.Nat.{add-mul}
use lib.ListN.{length}
use Rattle.laws.proofs.Index.{rows_below, cell_below, product_le}
use Rattle.model.specs.declared.Size.{Size}
use Rattle.model.specs.Size.{records, cell_records}
use Rattle.model.specs.Table.{cell_index}
use Rattle.model.proofs.Table.{spot_below}
use Rattle.cells.specs.Here.{Here}
use Rattle.model.proofs.Sizes.{sizes, rows_most, records_most}

pub record Room (s : Size) (cells : List ℕ) (section round lane rack : ℕ) : Type 0 where
  pub rows : s.rounds * s.lanes ≤ 256
  pub all : records s ≤ 2048
  pub bytes : length cells ≡ 24 * records s
  pub sections : section * records s + records s ≤ 3 * records s
  pub rows_before : (round - 1) * s.lanes + s.lanes ≤ s.rounds * s.lanes
  pub before : (round - 1) * s.lanes * s.racks + s.lanes * s.racks ≤ records s
  pub inside : lane * s.racks + rack < s.lanes * s.racks
  pub place : ((round - 1) * s.lanes + lane) * s.racks + rack < records s

pub room : {s : Size} {cells : List ℕ} {section round lane rack : ℕ} → Here s cells section round lane rack → Room s cells section round lane rack
unfolding cell_records
room {s} {cells} {section} {round} {lane} {rack} h =
    let z = sizes s h.size in
    let p = h.spot in
    let b = rows_below {i = round - 1} {k = s.rounds} s.lanes (omega (arith, p.round_low, p.round_high)) in
    let d = product_le {a = (round - 1) * s.lanes + s.lanes} {b = s.racks} {x = s.rounds * s.lanes} {y = s.racks} b (omega arith) in
    let e = add-mul ((round - 1) * s.lanes) s.lanes s.racks in
    record {
      rows = rows_most s z;
      all = records_most s z;
      bytes = omega (arith, h.exact);
      sections = rows_below {i = section} {k = 3} (records s) p.section_there;
      rows_before = b;
      before = omega arith;
      inside = cell_below {i = lane} {k = s.lanes} {r = rack} {n = s.racks} p.lane_there p.rack_there;
      place = spot_below s section round lane rack p;
    }

-- the same of a section's index
pub room_of : {s : Size} {cells : List ℕ} {section index round lane rack : ℕ}
    → Here s cells section round lane rack → index ≡ section → Room s cells index round lane rack
room_of {s} {cells} {section} {index} {round} {lane} {rack} h e = subst (λ i. Room s cells i round lane rack) (sym e) (room h)

-- a record's place: where its round's part of the section starts, and the place in that part
pub in_part : (s : Size) (section round lane rack : ℕ)
    → cell_index s section round lane rack ≡ section * records s + (round - 1) * s.lanes * s.racks + (lane * s.racks + rack)
unfolding cell_index
in_part s section round lane rack =
    let e = add-mul ((round - 1) * s.lanes) lane s.racks in
    omega arith
