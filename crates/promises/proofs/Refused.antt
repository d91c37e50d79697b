-- "A refusal returns its number and zeros; tables, states and lists stay as before." For a turn: `turn_stays` in model's proofs; for a cue record: `lists_stay` in those of cues.
use mathlib.Core.Path.{◌≡◌, refl}
use Prim.Native.Nat.{ℕ}
use lib.ListN.{replicate}
use Rattle.std.specs.Prelude.{Ok, Err}
use Rattle.laws.proofs.Cases.{either, bool}
use Rattle.model.specs.declared.Size.{Size}
use Rattle.model.specs.declared.Cue.{Cue}
use Rattle.model.specs.Record.{no_cue}
use Rattle.model.specs.Table.{Tables}
use Rattle.model.specs.Turn.{fits}
use Rattle.model.specs.Fresh.{zero_rack, filled}
use Rattle.model.specs.Refusal.{Answer, answer_number, answer_value}

-- a refused fresh leaves the tables, and its racks are zeros
pub fresh_stays : (s : Size) (t : Tables) → ((filled s t).number ≡ 0 → ⊥) → (filled s t).card ≡ record { tables = t; racks = replicate 8 zero_rack }
unfolding filled
fresh_stays s t n = either (bool (fits s t)) (λ e. absurd (n (rw e))) (λ e. rw e)

-- a refused query gives zeros: for its value stands what stands for none
pub answer_none : {A : Type 0} (none : A) (answer : Answer A) → (answer_number answer ≡ 0 → ⊥) → answer_value none answer ≡ none
answer_none none (Ok a) n = absurd (n refl)
answer_none none (Err number) n = refl

-- the log query's cue, and the code query's code
pub entry_zeros : (e : Answer Cue) → (answer_number e ≡ 0 → ⊥) → answer_value no_cue e ≡ no_cue
entry_zeros e = answer_none no_cue e

pub code_zero : (e : Answer ℕ) → (answer_number e ≡ 0 → ⊥) → answer_value 0 e ≡ 0
code_zero e = answer_none 0 e
