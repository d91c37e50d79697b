-- The length that settling would leave.
use Rattle.std.specs.Prelude.{Bool, cond, ℕ, suc, leb}
use Rattle.model.specs.declared.Size.{Size}
use Rattle.model.specs.declared.Rack.{Rack}
use Rattle.model.specs.Record.{Logs}
use Rattle.model.specs.Table.{length_from}
use Rattle.model.specs.Settle.{Log, lane_log}

-- L, one greater if a cue is appended
abbrev pub grown_if : Bool → ℕ → ℕ
grown_if due length = cond due (suc length) length

-- the log that starts at a record, by the table: at most so many entries
abbrev pub log_at : Logs → ℕ → ℕ → Log
log_at table start most = record { table = table; start = start; length = length_from table start most }

-- settling leaves a lane's log no longer than R
abbrev pub lane_fits : Size → ℕ → Logs → Rack → ℕ → Bool
lane_fits s rack logs r lane = leb (lane_log s rack logs r lane).length s.rounds
