-- What adding cue records gives.
use Rattle.std.specs.Prelude.{List, ℕ, Result, Ok, Err}
use Rattle.model.specs.Refusal.{number_of}
use Rattle.model.specs.Sheet.{Loaded}
use Rattle.tell.specs.declared.BadCue.{BadCue}

-- 0 and how many records there were, or the first refusal's number and its index; and the lists
abbrev pub loaded : Result ℕ BadCue → List ℕ → Loaded
loaded (Ok count) lists = record { number = 0; index = count; lists = lists }
loaded (Err bad) lists = record { number = number_of bad.refusal; index = bad.index; lists = lists }
