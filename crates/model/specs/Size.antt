-- Sizes and lengths.
use Rattle.std.specs.Prelude.{Bool, ◌&&◌, ℕ, ◌+◌, ◌*◌, leb}
use Rattle.model.specs.declared.Size.{Size}

abbrev pub within : ℕ → ℕ → ℕ → Bool
within low high x = leb low x && leb x high

-- "n racks, 1 to 8. k lanes, 1 to 4.", and rounds, 1 to as many as the form of the records allows
unfoldable pub size_up_to : ℕ → Size → Bool
size_up_to most s = within 1 8 s.racks && (within 1 4 s.lanes && within 1 most s.rounds)

abbrev pub most_rounds : ℕ
most_rounds = 64

-- "n racks, 1 to 8. k lanes, 1 to 4. R rounds, 1 to 64."
abbrev pub size_fits : Size → Bool
size_fits s = size_up_to most_rounds s

-- how many records a section of the cell table has
abbrev pub records : Size → ℕ
records s = s.rounds * s.lanes * s.racks

-- "It has three sections (offers, first cells, second cells)"
unfoldable pub cell_records : Size → ℕ
cell_records s = 3 * records s

-- "records of issuer and number, R per lane, the lanes of rack 0 first"
unfoldable pub log_records : Size → ℕ
log_records s = records s

-- "Decision table: R·k bytes"
unfoldable pub decisions_length : Size → ℕ
decisions_length s = s.rounds * s.lanes

-- the steps of a round before its blocks: the offer and the answer
abbrev pub leading : ℕ
leading = 2

-- "a block of 2n + 2 steps"
unfoldable pub block_steps : Size → ℕ
block_steps s = 2 * s.racks + 2

-- "A round of one rack is 2 + k(2n + 2) steps."
unfoldable pub round_steps : Size → ℕ
round_steps s = leading + s.lanes * block_steps s
