-- "Refusal numbers": the document's number for each case of the enum, and what an answer is in its numbers and values.
use Rattle.std.specs.Prelude.{ℕ, Result, Ok, Err}
use Rattle.model.specs.declared.Refusal.{Refusal}
use Rattle.model.specs.declared.Refusal.TheVariants.{Misfit, Unsound, BadRecord, Finished, Misnamed, NotOffered, DecidedElse, Overfull, NotThere, BadCue}

abbrev pub number_of : Refusal → ℕ
number_of Misfit = 1
number_of Unsound = 2
number_of BadRecord = 3
number_of Finished = 4
number_of Misnamed = 5
number_of NotOffered = 6
number_of DecidedElse = 7
number_of Overfull = 8
number_of NotThere = 9
number_of BadCue = 10

-- a value, or a refusal's number
abbrev pub Answer : Type 0 → Type 0
Answer A = Result A ℕ

-- "A refusal returns its number and zeros": an answer's number, 0 for a value, and its value, which `none` stands for in a refusal
abbrev pub answer_number : {A : Type 0} → Answer A → ℕ
answer_number (Ok a) = 0
answer_number (Err number) = number

abbrev pub answer_value : {A : Type 0} → A → Answer A → A
answer_value none (Ok a) = a
answer_value none (Err number) = none

-- what a call hands back, with the refusal as its number
abbrev pub numbered : {A : Type 0} → Result A Refusal → Answer A
numbered (Ok a) = Ok a
numbered (Err refusal) = Err (number_of refusal)

-- a reply's number, and what is then there: what it hands back, or where it refuses what was there before
abbrev pub reply_number : {A : Type 0} → Result A Refusal → ℕ
reply_number reply = answer_number (numbered reply)

abbrev pub reply_or : {A : Type 0} → A → Result A Refusal → A
reply_or before reply = answer_value before (numbered reply)
