-- A rack's write into a cell of its own: the tables stay sound, and the other racks see only that no cell was emptied.
use mathlib.Core.Path.{◌≡◌, refl, ◌∙◌}
use mathlib.Core.Logic.{◌≢◌}
use mathlib.Core.Bool.{true, false}
use Prim.Native.Nat.{ℕ}
use lib.ListN.{length}
use Rattle.model.specs.declared.Size.{Size}
use Rattle.model.specs.declared.Cell.{Cell}
use Rattle.model.specs.Size.{size_up_to, cell_records}
use Rattle.model.specs.Form.{length_of}
use Rattle.model.specs.Record.{is_empty, cell_at, Cells}
use Rattle.model.specs.Table.{Tables, cell_index, read_cell, write_cell}
use Rattle.model.specs.Sound.{sound_cell, sound_cells}
use Rattle.model.proofs.Record.{load_other}
use Rattle.model.proofs.Table.{Spot, same_section, same_rack}
use Rattle.steady.proofs.Cells.{length_written, still_full, write_sound}
use Rattle.steady.proofs.Kept.{TablesSound, Beside}

-- the tables with other cells
abbrev pub celled : Tables → Cells → Tables
celled t cells = record { cells = cells; logs = t.logs; decisions = t.decisions }

module _ (s : Size) (t : Tables) where
  -- what is left to the others depends on the cells alone
  pub beside_cells : (rack : ℕ) (cells : Cells)
      → ((q : ℕ) → q ≢ rack → (section round lane : ℕ) → Spot s section round lane q
      → read_cell s cells section round lane q ≡ read_cell s t.cells section round lane q)
      → ((i : ℕ) → is_empty (cell_at t.cells i) ≡ false → is_empty (cell_at cells i) ≡ false)
      → Beside s t (celled t cells) rack
  beside_cells rack cells own full =
      record { own = own; full = full; decided = λ round lane a b c d. refl; lengths = λ q d g lane h. refl }

  -- nothing was written
  pub beside_none : (rack : ℕ) → Beside s t t rack
  beside_none rack = beside_cells rack t.cells (λ q d section round lane p. refl) (λ i f. f)

  tables_cells : (cells : Cells) → TablesSound s t → size_up_to cells.form.most s ≡ true → length cells.bytes ≡ length_of cells (cell_records s) → sound_cells s cells ≡ true → TablesSound s (celled t cells)
  tables_cells cells ok size long e =
      record {
        exact = record { size = size; cells = long; logs = ok.exact.logs; decisions = ok.exact.decisions };
        cells = e;
        decisions = ok.decisions;
        logs = ok.logs;
      }

module _ (s : Size) (cells : Cells) (section round lane rack : ℕ) (c : Cell) (p : Spot s section round lane rack) where
  pub other_rack : (q : ℕ) → q ≢ rack → (section' round' lane' : ℕ) → Spot s section' round' lane' q
      → read_cell s (write_cell s cells section round lane rack c) section' round' lane' q ≡ read_cell s cells section' round' lane' q
  other_rack q d section' round' lane' p' =
      load_other cells (cell_index s section round lane rack) c (cell_index s section' round' lane' q)
      (λ e. d (same_rack s section' round' lane' q section round lane rack p' p e))

  pub other_section : (section' : ℕ) → section' ≢ section → (round' lane' q : ℕ) → Spot s section' round' lane' q
      → read_cell s (write_cell s cells section round lane rack c) section' round' lane' q ≡ read_cell s cells section' round' lane' q
  other_section section' d round' lane' q p' =
      load_other cells (cell_index s section round lane rack) c (cell_index s section' round' lane' q)
      (λ e. d (same_section s section' round' lane' q section round lane rack p' p e))

module _ (s : Size) (t : Tables) (ok : TablesSound s t) (section round lane rack : ℕ) (c : Cell) (p : Spot s section round lane rack) where
  pub write_tables : sound_cell s section c ≡ true → TablesSound s (celled t (write_cell s t.cells section round lane rack c))
  write_tables e =
      tables_cells s t _ ok ok.exact.size
      (length_written s t.cells section round lane rack c ∙ ok.exact.cells)
      (write_sound s t.cells section round lane rack c ok.exact.cells p e ok.cells)

  pub write_full : is_empty c ≡ false → (i : ℕ) → is_empty (cell_at t.cells i) ≡ false
      → is_empty (cell_at (write_cell s t.cells section round lane rack c) i) ≡ false
  write_full f = still_full s t.cells section round lane rack c f ok.exact.cells p

  pub write_beside : is_empty c ≡ false → Beside s t (celled t (write_cell s t.cells section round lane rack c)) rack
  write_beside f = beside_cells s t rack _ (other_rack s t.cells section round lane rack c p) (write_full f)
