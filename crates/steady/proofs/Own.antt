-- What a rack has at its place in a block: its own cells there, and the first cells when it has read them all.
use mathlib.Core.Path.{◌≡◌, refl}
use mathlib.Core.Bool.{true, false}
use Prim.Native.Nat.{ℕ, ◌+◌, ◌≤◌, ◌<◌}
use native.Mathlib.Omega.{arith}
use Rattle.model.specs.declared.Size.{Size}
use Rattle.model.specs.declared.Rack.{Rack}
use Rattle.model.specs.Record.{is_empty}
use Rattle.model.specs.Table.{Tables, first_cells, second_cells, cell_now, first_at}
use Rattle.model.specs.Kind.{place_at, lane_at, steps_in, firsts_read}
use Rattle.model.specs.Step.{own}
use Rattle.model.specs.Sound.{sound_value, sound_cell}
use Rattle.steady.proofs.Visits.{here_before}
use Rattle.steady.proofs.Facts.{RackSound}
use Rattle.steady.proofs.Cells.{full_value, cell_sound}
use Rattle.steady.proofs.Values.{AllCarry}
use Rattle.steady.proofs.Kept.{Ready, lane_there, spot_now}

module _ (s : Size) (t : Tables) (rack : ℕ) (r : Rack) (ready : Ready s t rack r) (late : 2 ≤ r.step) where
  abbrev ok : RackSound s t rack r
  ok = ready.rack_sound

  taken : steps_in s r (lane_at s r) ≡ place_at s r.step
  taken = here_before s r (lane_at s r) late refl

  first_full : 1 ≤ place_at s r.step → is_empty (cell_now s t.cells r first_cells (lane_at s r) rack) ≡ false
  first_full h = let e = taken in (ok.written (lane_at s r) (lane_there s t rack r ok late)).first (omega arith)

  second_full : s.racks + 2 ≤ place_at s r.step → is_empty (cell_now s t.cells r second_cells (lane_at s r) rack) ≡ false
  second_full h = let e = taken in (ok.written (lane_at s r) (lane_there s t rack r ok late)).second (omega arith)

  -- the cell of a rack that is there, in the lane at work
  pub cell_now_is : (section q : ℕ) → section < 3 → q < s.racks → sound_cell s section (cell_now s t.cells r section (lane_at s r) q) ≡ true
  cell_now_is section q h g =
      cell_sound s t.cells section r.round (lane_at s r) q (spot_now s t rack r ok section q h g late) ready.tables.cells

  pub own_sound : 1 ≤ place_at s r.step → sound_value s (own s t.cells rack r) ≡ true
  own_sound h = full_value s first_cells _ (cell_now_is first_cells rack (omega arith) ready.there) (first_full h)

  pub second_value_is : s.racks + 2 ≤ place_at s r.step → sound_value s (cell_now s t.cells r second_cells (lane_at s r) rack).value ≡ true
  second_value_is h = full_value s second_cells _ (cell_now_is second_cells rack (omega arith) ready.there) (second_full h)

  -- the first cells are all read before the second cell is written
  module _ (read : s.racks + 1 ≤ place_at s r.step) where
    all_firsts : firsts_read s r ≡ s.racks
    unfolding firsts_read
    all_firsts = omega arith

    pub firsts_carry : AllCarry s r.firsts s.racks
    firsts_carry i h =
        let e = all_firsts in
        let n = ready.sizes.racks_high in
        full_value s first_cells (first_at r i) (ok.gathered.some_first i (omega arith) (omega arith))

    pub own_back : is_empty (first_at r rack) ≡ false
    own_back =
        let e = all_firsts in
        let h = ready.there in
        rw (ok.back.first_back (omega arith)) (first_full (omega arith))
