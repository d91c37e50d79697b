-- A refusal has a number, and no two have the same.
use mathlib.Core.Path.{◌≡◌, refl, sym, ap, ◌∙◌}
use Prim.Native.Nat.{ℕ}
use native.Mathlib.Omega.{arith}
use Rattle.std.proofs.Common.{Result, Ok, Err, cond, eqb}
use Rattle.model.specs.declared.Refusal.{Refusal}
use Rattle.model.specs.declared.Refusal.TheVariants.{Misfit, Unsound, BadRecord, Finished, Misnamed, NotOffered, DecidedElse, Overfull, NotThere, BadCue}
use Rattle.model.specs.Refusal.{number_of, Answer, numbered, reply_number, reply_or}

pub not_zero : (refusal : Refusal) → number_of refusal ≡ 0 → ⊥
not_zero Misfit e = omega arith
not_zero Unsound e = omega arith
not_zero BadRecord e = omega arith
not_zero Finished e = omega arith
not_zero Misnamed e = omega arith
not_zero NotOffered e = omega arith
not_zero DecidedElse e = omega arith
not_zero Overfull e = omega arith
not_zero NotThere e = omega arith
not_zero BadCue e = omega arith

-- the refusal of a number
abbrev of_number : ℕ → Refusal
of_number n =
    cond (eqb n 1) Misfit
    (cond (eqb n 2) Unsound
    (cond (eqb n 3) BadRecord
    (cond (eqb n 4) Finished
    (cond (eqb n 5) Misnamed
    (cond (eqb n 6) NotOffered
    (cond (eqb n 7) DecidedElse
    (cond (eqb n 8) Overfull
    (cond (eqb n 9) NotThere BadCue))))))))

of_its_number : (refusal : Refusal) → of_number (number_of refusal) ≡ refusal
of_its_number Misfit = refl
of_its_number Unsound = refl
of_its_number BadRecord = refl
of_its_number Finished = refl
of_its_number Misnamed = refl
of_its_number NotOffered = refl
of_its_number DecidedElse = refl
of_its_number Overfull = refl
of_its_number NotThere = refl
of_its_number BadCue = refl

-- so what a call hands back is known from it with the number for the refusal
abbrev of_answer : {A : Type 0} → Answer A → Result A Refusal
of_answer (Ok a) = Ok a
of_answer (Err number) = Err (of_number number)

of_its_answer : {A : Type 0} (r : Result A Refusal) → of_answer (numbered r) ≡ r
of_its_answer (Ok a) = refl
of_its_answer (Err refusal) = ap (λ x. Err x) (of_its_number refusal)

pub same_answer : {A : Type 0} (r r' : Result A Refusal) → numbered r ≡ numbered r' → r ≡ r'
same_answer r r' e = sym (of_its_answer r) ∙ ap of_answer e ∙ of_its_answer r'

pub same_reply : {A : Type 0} (before : A) (r r' : Result A Refusal) → reply_number r ≡ reply_number r' → reply_or before r ≡ reply_or before r' → r ≡ r'
same_reply before (Ok a) (Ok b) e f = ap (λ x. Ok x) f
same_reply before (Ok a) (Err refusal) e f = absurd (not_zero refusal (sym e))
same_reply before (Err refusal) (Ok b) e f = absurd (not_zero refusal e)
same_reply before (Err refusal) (Err other) e f =
    ap (λ x. Err x) (sym (of_its_number refusal) ∙ ap of_number e ∙ of_its_number other)
