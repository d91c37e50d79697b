-- How much of cues.rec is read.
use Rattle.std.specs.Prelude.{ℕ, ◌*◌}

-- "at most 64 each": 8 racks' 4 lanes are full after 2,048 records, so that the 2,049th is bad at the latest; one more is read
abbrev pub records_read : ℕ
records_read = 2050

-- "A cue record is 4 bytes"
abbrev pub cues_read : ℕ
cues_read = 4 * records_read
