-- What a firmware is told where the call below answers with a value or a refusal, or hands back a log: numbers, in a struct.
use Rattle.std.specs.Prelude.{List, Bool, cond, ℕ, zero, suc, ltb, length}
use Rattle.model.specs.declared.Cue.{Cue}
use Rattle.model.specs.Record.{no_cue}
use Rattle.model.specs.Refusal.{Answer, answer_number, answer_value}
use Rattle.model.specs.Logs.{agree, longer}
use Rattle.ports.specs.declared.EntryAnswer.{EntryAnswer}
use Rattle.ports.specs.declared.LongerAnswer.{LongerAnswer}
use Rattle.ports.specs.declared.CodeAnswer.{CodeAnswer}

-- "A refusal returns its number and zeros"
abbrev pub entry_told : Answer Cue → EntryAnswer
entry_told e =
    let cue = answer_value no_cue e in
    record { number = answer_number e; issuer = cue.issuer; cue = cue.number }

abbrev pub code_told : Answer ℕ → CodeAnswer
code_told c = record { number = answer_number c; code = answer_value 0 c }

-- whether two logs agree, as a number
abbrev pub agree_told : Bool → ℕ
agree_told agreeing = cond agreeing 1 0

-- 0 for the first log, "the first if equal", 1 for the second, and 2 "if they don't agree"
unfoldable pub which_longer : List ℕ → List ℕ → ℕ
which_longer a b = cond (agree a b) (cond (ltb (length a) (length b)) 1 0) 2

-- what a number of `which_longer` names: the first, the second, or an empty part of the first
abbrev pub named : {A : Type 0} → ℕ → A → A → A → A
named zero first second empty = first
named (suc zero) first second empty = second
named (suc (suc which)) first second empty = empty

abbrev pub longer_told : List ℕ → List ℕ → LongerAnswer
longer_told a b = record { which = which_longer a b; length = length (longer a b) }
