-- Where each record stands: within its table, and no two at one place.
use mathlib.Core.Path.{◌≡◌, sym, ap, ◌∙◌}
use Prim.Native.Nat.{ℕ, ◌+◌, ◌*◌, ◌-◌, ◌≤◌, ◌<◌}
use native.Mathlib.Omega.{arith}
use native.Mathlib.Nat.{mul_comm, mul_assoc}
use Rattle.laws.proofs.Index.{cell_below, same_row, same_column}
use Rattle.model.specs.declared.Size.{Size}
use Rattle.model.specs.Size.{records, cell_records, log_records, decisions_length}
use Rattle.model.specs.Table.{cell_index, log_start, decision_index}

-- a section, a round, a lane and a rack that are there
pub record Spot (s : Size) (section round lane rack : ℕ) : Type 0 where
  pub section_there : section < 3
  pub round_low : 1 ≤ round
  pub round_high : round ≤ s.rounds
  pub lane_there : lane < s.lanes
  pub rack_there : rack < s.racks

module _ (s : Size) where
  pub row_below : (round lane : ℕ) → 1 ≤ round → round ≤ s.rounds → lane < s.lanes → (round - 1) * s.lanes + lane < s.rounds * s.lanes
  row_below round lane a b c = cell_below {i = round - 1} {k = s.rounds} {r = lane} {n = s.lanes} (omega arith) c

  pub spot_below : (section round lane rack : ℕ) → Spot s section round lane rack
      → ((round - 1) * s.lanes + lane) * s.racks + rack < records s
  spot_below section round lane rack p =
      cell_below {i = (round - 1) * s.lanes + lane} {k = s.rounds * s.lanes} {r = rack} {n = s.racks}
      (row_below round lane p.round_low p.round_high p.lane_there) p.rack_there

  -- a record of the cell table lies within it
  pub index_fits : (section round lane rack : ℕ) → Spot s section round lane rack → cell_index s section round lane rack < cell_records s
  unfolding cell_index cell_records
  index_fits section round lane rack p =
      let a = cell_below {i = section} {k = 3} {n = records s} p.section_there (spot_below section round lane rack p) in
      omega arith

  -- records of different spots are different
  module _ (section round lane rack section' round' lane' rack' : ℕ)
      (p : Spot s section round lane rack) (q : Spot s section' round' lane' rack')
      (e : cell_index s section round lane rack ≡ cell_index s section' round' lane' rack') where
    pub same_section : section ≡ section'
    unfolding cell_index
    same_section =
        same_row {n = records s} section _ section' _ (spot_below section round lane rack p) (spot_below section' round' lane' rack' q) e

    in_section : ((round - 1) * s.lanes + lane) * s.racks + rack ≡ ((round' - 1) * s.lanes + lane') * s.racks + rack'
    unfolding cell_index
    in_section =
        same_column {n = records s} section _ section' _ (spot_below section round lane rack p) (spot_below section' round' lane' rack' q) e

    pub same_rack : rack ≡ rack'
    same_rack = same_column {n = s.racks} _ rack _ rack' p.rack_there q.rack_there in_section

    in_row : (round - 1) * s.lanes + lane ≡ (round' - 1) * s.lanes + lane'
    in_row = same_row {n = s.racks} _ rack _ rack' p.rack_there q.rack_there in_section

    pub same_lane : lane ≡ lane'
    same_lane = same_column {n = s.lanes} _ lane _ lane' p.lane_there q.lane_there in_row

    pub same_round : round ≡ round'
    same_round =
        let e = same_row {n = s.lanes} (round - 1) lane (round' - 1) lane' p.lane_there q.lane_there in_row in
        let a = p.round_low in
        let b = q.round_low in
        omega arith

  -- a decision lies within its table, and no two at one place
  pub decision_fits : (round lane : ℕ) → 1 ≤ round → round ≤ s.rounds → lane < s.lanes → decision_index s round lane < decisions_length s
  unfolding decision_index decisions_length
  decision_fits round lane a b c = row_below round lane a b c

  pub decision_lane : (round lane round' lane' : ℕ) → lane < s.lanes → lane' < s.lanes
      → decision_index s round lane ≡ decision_index s round' lane' → lane ≡ lane'
  unfolding decision_index
  decision_lane round lane round' lane' h g e = same_column {n = s.lanes} (round - 1) lane (round' - 1) lane' h g e

  pub decision_round : (round lane round' lane' : ℕ) → 1 ≤ round → 1 ≤ round' → lane < s.lanes → lane' < s.lanes
      → decision_index s round lane ≡ decision_index s round' lane' → round ≡ round'
  unfolding decision_index
  decision_round round lane round' lane' a b h g e =
      let r = same_row {n = s.lanes} (round - 1) lane (round' - 1) lane' h g e in
      omega arith

  -- the entries of a log lie within the log table, and those of two logs are apart
  pub entry_fits : (rack lane place : ℕ) → rack < s.racks → lane < s.lanes → place < s.rounds
      → log_start s rack lane + place < log_records s
  unfolding log_start log_records
  entry_fits rack lane place a b c =
      let p = cell_below {i = rack} {k = s.racks} {r = lane} {n = s.lanes} a b in
      let q = cell_below {i = rack * s.lanes + lane} {k = s.racks * s.lanes} {r = place} {n = s.rounds} p c in
      let e : s.racks * s.lanes * s.rounds ≡ s.rounds * s.lanes * s.racks =
      mul_comm (s.racks * s.lanes) s.rounds
      ∙ ap (λ (x : ℕ). s.rounds * x) (mul_comm s.racks s.lanes)
      ∙ sym (mul_assoc s.rounds s.lanes s.racks)
      in
      omega arith

  pub entry_rack : (rack lane place rack' lane' place' : ℕ) → lane < s.lanes → place < s.rounds → lane' < s.lanes → place' < s.rounds
      → log_start s rack lane + place ≡ log_start s rack' lane' + place' → rack ≡ rack'
  unfolding log_start
  entry_rack rack lane place rack' lane' place' a b c d e =
      same_row {n = s.lanes} rack lane rack' lane' a c
      (same_row {n = s.rounds} (rack * s.lanes + lane) place (rack' * s.lanes + lane') place' b d e)

  pub entry_lane : (rack lane place rack' lane' place' : ℕ) → lane < s.lanes → place < s.rounds → lane' < s.lanes → place' < s.rounds
      → log_start s rack lane + place ≡ log_start s rack' lane' + place' → lane ≡ lane'
  unfolding log_start
  entry_lane rack lane place rack' lane' place' a b c d e =
      same_column {n = s.lanes} rack lane rack' lane' a c
      (same_row {n = s.rounds} (rack * s.lanes + lane) place (rack' * s.lanes + lane') place' b d e)
