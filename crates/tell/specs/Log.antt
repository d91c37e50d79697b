-- The text of one log, from the log table and the cue lists alone; `proofs/Logs` shows that it is the sheet's.
use Rattle.std.specs.Prelude.{◌≡◌, List, [], ◌++◌, true, ℕ, zero, suc, ◌+◌, ◌*◌, ◌≤◌, ◌<◌, length}
use Rattle.model.specs.declared.Size.{Size}
use Rattle.model.specs.Size.{size_fits}
use Rattle.model.specs.InUse.{entry_form, logs_length, logs_of}
use Rattle.model.specs.Record.{entry_at, Logs}
use Rattle.model.specs.Table.{log_start, log_length}
use Rattle.model.specs.Sound.{sound_logs}
use Rattle.model.specs.Cues.{list_most, lists_fit, list_start, code_in}
use Rattle.model.specs.Sheet.{log_line, entry_line}

-- the line of the entry at a place behind a log's start
unfoldable pub entry_text : ℕ → List ℕ → Logs → ℕ → ℕ → ℕ → List ℕ
entry_text k lists logs start lane place =
    let c = entry_at logs (start + place) in
    entry_line place c.issuer c.number (code_in k lists c.issuer lane c.number)

-- the lines of the first entries
unfoldable pub entries_text : ℕ → List ℕ → Logs → ℕ → ℕ → ℕ → List ℕ
entries_text k lists logs start lane zero = []
entries_text k lists logs start lane (suc place) =
    entries_text k lists logs start lane place ++ entry_text k lists logs start lane place

-- a log's line, and under it each entry
unfoldable pub log_text : Size → List ℕ → Logs → ℕ → ℕ → ℕ → List ℕ
log_text s lists logs rack lane finished =
    let L = log_length s logs rack lane in
    log_line rack lane finished L ++ entries_text s.lanes lists logs (log_start s rack lane) lane L

-- what writing the first entries requires: they are there, their cues' lists are there, and there is room for a line of each
pub record EntriesReady (k : ℕ) (logs lists : List ℕ) (start lane count at : ℕ) (out : List ℕ) : Type 0 where
  pub inside : entry_form.width * (start + count) ≤ length logs
  pub listed : (i : ℕ) → i < count → 2 * (list_start k (entry_at (logs_of logs) (start + i)).issuer lane + list_most) ≤ length lists
  pub room : at + 128 * count ≤ length out

-- what writing a log requires: the tests of sizes, lengths and soundness, a log that is there, and room for 65 lines
pub record LogReady (s : Size) (logs lists : List ℕ) (rack lane : ℕ) (out : List ℕ) : Type 0 where
  pub fit : size_fits s ≡ true
  pub exact : length logs ≡ logs_length s
  pub ok : sound_logs s (logs_of logs) ≡ true
  pub lists_fit_is : lists_fit s.racks s.lanes lists ≡ true
  pub rack_there : rack < s.racks
  pub lane_there : lane < s.lanes
  pub room : 8320 ≤ length out
