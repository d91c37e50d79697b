-- What a record says, and the tables of such records.
use Rattle.std.specs.Prelude.{Bool, ◌&&◌, ℕ, eqb}
use Rattle.model.specs.declared.Cue.{Cue}
use Rattle.model.specs.declared.Value.{Value}
use Rattle.model.specs.declared.Cell.{Cell}
use Rattle.model.specs.Form.{Table, record_at, store}

abbrev pub no_cue : Cue
no_cue = record { issuer = 0; number = 0 }

abbrev pub no_value : Value
no_value = record { place = 0; cue = no_cue; previous = no_cue }

-- "An empty cell is eight zeros."
abbrev pub no_cell : Cell
no_cell = record { mark = 0; value = no_value }

-- "mark (0 empty, 1 offer or first cell, 2 adopted, 3 committed)"
abbrev pub offered : Value → Cell
offered v = record { mark = 1; value = v }

abbrev pub adopted : Value → Cell
adopted v = record { mark = 2; value = v }

abbrev pub committed : Value → Cell
committed v = record { mark = 3; value = v }

abbrev pub is_empty : Cell → Bool
is_empty c = eqb c.mark 0

abbrev pub is_committed : Cell → Bool
is_committed c = eqb c.mark 3

unfoldable pub same_cue : Cue → Cue → Bool
same_cue a b = eqb a.issuer b.issuer && eqb a.number b.number

-- "all five must match for equal values"
unfoldable pub same_value : Value → Value → Bool
same_value a b = eqb a.place b.place && (same_cue a.cue b.cue && same_cue a.previous b.previous)

unfoldable pub same_cell : Cell → Cell → Bool
same_cell a b = eqb a.mark b.mark && same_value a.value b.value

-- the lent tables of cells and of logs
abbrev pub Cells : Type 0
Cells = Table Cell no_cell

abbrev pub Logs : Type 0
Logs = Table Cue no_cue

abbrev pub cell_at : Cells → ℕ → Cell
cell_at cells i = record_at cells i

abbrev pub store_cell : Cells → ℕ → Cell → Cells
store_cell cells i c = store cells i c

abbrev pub entry_at : Logs → ℕ → Cue
entry_at logs i = record_at logs i

abbrev pub store_entry : Logs → ℕ → Cue → Logs
store_entry logs i c = store logs i c
