-- The cell table: what a sound one gives at each spot, and that a sound cell written at a spot leaves it sound.
use mathlib.Core.Path.{◌≡◌, refl, sym, subst}
use mathlib.Core.Logic.{◌≢◌}
use mathlib.Core.Bool.{true, false, ◌&&◌}
use Prim.Native.Nat.{ℕ, zero, suc, ◌+◌, ◌*◌, ◌-◌, ◌<◌}
use native.Mathlib.Omega.{arith}
use lib.ListN.{length}
use Rattle.laws.proofs.Cases.{either, eq_or_ne, and_true, true_and}
use Rattle.laws.proofs.Below.{below_at, all_below}
use Rattle.laws.proofs.Index.{same_row}
use Rattle.model.specs.declared.Size.{Size}
use Rattle.model.specs.declared.Cell.{Cell}
use Rattle.model.specs.Size.{records, cell_records}
use Rattle.model.specs.Form.{record_at, spare_at, length_of}
use Rattle.model.specs.Record.{no_value, is_empty, same_value, cell_at, Cells}
use Rattle.model.specs.Table.{offers, first_cells, second_cells, cell_index, read_cell, write_cell}
use Rattle.model.specs.Sound.{mark_fits, sound_value, sound_cell, sound_record, sound_section, sound_cells}
use Rattle.model.proofs.Record.{Room, room, length_store, load_store, load_other, spare_store, spare_other}
use Rattle.model.proofs.Table.{Spot, spot_below, index_fits}
use Rattle.steady.proofs.Tests.{cond_else}

module _ (s : Size) where
  -- a cell that is not empty holds a sound value
  pub full_value : (section : ℕ) (c : Cell) → sound_cell s section c ≡ true → is_empty c ≡ false → sound_value s c.value ≡ true
  unfolding sound_cell
  full_value section c e f =
      (and_true (mark_fits section c.mark) (sound_value s c.value)
      (cond_else (is_empty c) (same_value c.value no_value) (mark_fits section c.mark && sound_value s c.value) e f)).1

  -- a mark and a value make a sound cell
  pub sound_cell_is : (section : ℕ) (c : Cell) → is_empty c ≡ false → mark_fits section c.mark ≡ true → sound_value s c.value ≡ true
      → sound_cell s section c ≡ true
  unfolding sound_cell
  sound_cell_is section c f m v = rw f (true_and m v)

  section_of : (cells : Cells) (section : ℕ) → section < 3 → sound_cells s cells ≡ true → sound_section s cells section ≡ true
  unfolding sound_cells
  section_of cells zero h e = (and_true (sound_section s cells offers) _ e).0
  section_of cells (suc zero) h e =
      (and_true (sound_section s cells first_cells) _ (and_true (sound_section s cells offers) _ e).1).0
  section_of cells (suc (suc zero)) h e =
      (and_true (sound_section s cells first_cells) _ (and_true (sound_section s cells offers) _ e).1).1
  section_of cells (suc (suc (suc section))) h e = absurd (omega arith)

  record_at_is : (cells : Cells) (section i : ℕ) → section < 3 → i < records s → sound_cells s cells ≡ true
      → sound_record s cells section (section * records s + i) ≡ true
  unfolding sound_section
  record_at_is cells section i h g e =
      below_at (records s) (λ i. sound_record s cells section (section * records s + i)) (section_of cells section h e) i g

  -- the cell at a spot of a sound table
  pub cell_sound : (cells : Cells) (section round lane rack : ℕ) → Spot s section round lane rack → sound_cells s cells ≡ true
      → sound_cell s section (read_cell s cells section round lane rack) ≡ true
  unfolding sound_record cell_index record_at
  cell_sound cells section round lane rack p e =
      (and_true (sound_cell s section (read_cell s cells section round lane rack)) _
      (record_at_is cells section _ p.section_there (spot_below s section round lane rack p) e)).0

  module _ (cells : Cells) (section round lane rack : ℕ) (c : Cell) where
    pub length_written : length (write_cell s cells section round lane rack c).bytes ≡ length cells.bytes
    length_written = length_store cells (cell_index s section round lane rack) c

    -- a write never empties a cell
    pub still_full : is_empty c ≡ false → length cells.bytes ≡ length_of cells (cell_records s) → Spot s section round lane rack
        → (i : ℕ) → is_empty (cell_at cells i) ≡ false → is_empty (cell_at (write_cell s cells section round lane rack c) i) ≡ false
    still_full full long p i f =
        either (eq_or_ne i (cell_index s section round lane rack))
        (λ (e : i ≡ cell_index s section round lane rack).
        rw (e, load_store cells (cell_index s section round lane rack) c (room cells (cell_records s) _ long (index_fits s section round lane rack p))) full)
        (λ (d : i ≢ cell_index s section round lane rack). rw (load_other cells (cell_index s section round lane rack) c i d) f)

    module _ (long : length cells.bytes ≡ length_of cells (cell_records s)) (p : Spot s section round lane rack) where
      fit : Room cells (cell_index s section round lane rack)
      fit = room cells (cell_records s) (cell_index s section round lane rack) long (index_fits s section round lane rack p)

      pub cell_written : read_cell s (write_cell s cells section round lane rack c) section round lane rack ≡ c
      cell_written = load_store cells (cell_index s section round lane rack) c fit

      record_after : sound_cell s section c ≡ true → sound_cells s cells ≡ true → (section' i : ℕ) → section' < 3 → i < records s
          → sound_record s (write_cell s cells section round lane rack c) section' (section' * records s + i) ≡ true
      unfolding sound_record cell_index record_at spare_at
      record_after ok e section' i h g =
          let at = section * records s + (((round - 1) * s.lanes + lane) * s.racks + rack) in
          let old = record_at_is cells section' i h g e in
          either (eq_or_ne (section' * records s + i) at)
          (λ (q : section' * records s + i ≡ at).
          let n : section ≡ section' = sym (same_row {n = records s} section' i section _ g (spot_below s section round lane rack p) q) in
          let fine : sound_cell s section' c ≡ true = subst (λ (x : ℕ). sound_cell s x c ≡ true) n ok in
          rw (q, load_store cells at c fit, spare_store cells at c fit) (true_and fine refl))
          (λ (d : section' * records s + i ≢ at).
          rw (load_other cells at c (section' * records s + i) d, spare_other cells at c (section' * records s + i) d) old)

      pub write_sound : sound_cell s section c ≡ true → sound_cells s cells ≡ true → sound_cells s (write_cell s cells section round lane rack c) ≡ true
      unfolding sound_cells sound_section
      write_sound ok e =
          true_and (all_below (records s) _ (λ i h. record_after ok e offers i (omega arith) h))
          (true_and
          (all_below (records s) _ (λ i h. record_after ok e first_cells i (omega arith) h))
          (all_below (records s) _ (λ i h. record_after ok e second_cells i (omega arith) h)))
