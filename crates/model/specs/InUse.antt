-- The forms in use, and the words for what the calls are lent and hand back.
use Rattle.std.specs.Prelude.{List, ℕ, ◌*◌}
use Rattle.model.specs.declared.Cue.{Cue}
use Rattle.model.specs.declared.Cell.{Cell}
use Rattle.model.specs.declared.Rack.{Rack}
use Rattle.model.specs.declared.Size.{Size}
use Rattle.model.specs.Size.{cell_records, log_records}
use Rattle.model.specs.Form.{Form}
use Rattle.model.specs.Record.{no_cue, no_cell, Cells, Logs}
use Rattle.model.specs.Narrow.{narrow_cell, narrow_entry}
use Rattle.model.specs.Table.{Tables, Card}
use Rattle.model.specs.Step.{After}
use Rattle.model.specs.Turn.{Outcome}

abbrev pub cell_form : Form Cell no_cell
cell_form = narrow_cell

abbrev pub entry_form : Form Cue no_cue
entry_form = narrow_entry

-- the lent tables, by their bytes
abbrev pub cells_of : List ℕ → Cells
cells_of bytes = record { form = cell_form; bytes = bytes }

abbrev pub logs_of : List ℕ → Logs
logs_of bytes = record { form = entry_form; bytes = bytes }

abbrev pub tables_of : List ℕ → List ℕ → List ℕ → Tables
tables_of cells logs decisions = record { cells = cells_of cells; logs = logs_of logs; decisions = decisions }

-- with the eight racks, and with what a call replies
abbrev pub card_of : List ℕ → List ℕ → List ℕ → List Rack → Card
card_of cells logs decisions racks = record { tables = tables_of cells logs decisions; racks = racks }

abbrev pub outcome : ℕ → List ℕ → List ℕ → List ℕ → List Rack → Outcome
outcome number cells logs decisions racks = record { number = number; card = card_of cells logs decisions racks }

-- with the one rack that a step works on
abbrev pub after_of : List ℕ → List ℕ → List ℕ → Rack → After
after_of cells logs decisions rack = record { tables = tables_of cells logs decisions; rack = rack }

-- "Cell table: exactly 24·R·k·n bytes."
abbrev pub cells_length : Size → ℕ
cells_length s = cell_form.width * cell_records s

-- "Log table: 2·R·k·n bytes"
abbrev pub logs_length : Size → ℕ
logs_length s = entry_form.width * log_records s
