-- The tests of equality decide it.
use mathlib.Core.Path.{◌≡◌, refl, sym, ap, ◌∙◌}
use mathlib.Core.Logic.{◌⊎◌, inl, inr, ◌≢◌}
use mathlib.Core.Bool.{true, ◌&&◌}
use Prim.Native.Nat.{ℕ}
use borrow.Author.Tests.{eqb-true, eq-eqb}
use lib.Dec.{eqb}
use Rattle.laws.proofs.Cases.{either, bool, and_true, true_and, clash_bool}
use Rattle.model.specs.declared.Cue.{Cue}
use Rattle.model.specs.declared.Value.{Value}
use Rattle.model.specs.declared.Cell.{Cell}
use Rattle.model.specs.Record.{same_cue, same_value, same_cell}

same_number : (n : ℕ) → eqb n n ≡ true
same_number n = eq-eqb n n refl

pub cue_same : (a b : Cue) → same_cue a b ≡ true → a ≡ b
unfolding same_cue
cue_same a b e =
    let t = and_true (eqb a.issuer b.issuer) (eqb a.number b.number) e in
    let p = eqb-true a.issuer b.issuer t.0 in
    let q = eqb-true a.number b.number t.1 in
    λ i. record { issuer = p i; number = q i }

pub same_cue_is : (a : Cue) → same_cue a a ≡ true
unfolding same_cue
same_cue_is a = true_and (same_number a.issuer) (same_number a.number)

pub value_same : (a b : Value) → same_value a b ≡ true → a ≡ b
unfolding same_value
value_same a b e =
    let t = and_true (eqb a.place b.place) (same_cue a.cue b.cue && same_cue a.previous b.previous) e in
    let u = and_true (same_cue a.cue b.cue) (same_cue a.previous b.previous) t.1 in
    let p = eqb-true a.place b.place t.0 in
    let q = cue_same a.cue b.cue u.0 in
    let o = cue_same a.previous b.previous u.1 in
    λ i. record { place = p i; cue = q i; previous = o i }

pub same_value_is : (a : Value) → same_value a a ≡ true
unfolding same_value
same_value_is a = true_and (same_number a.place) (true_and (same_cue_is a.cue) (same_cue_is a.previous))

pub cell_same : (a b : Cell) → same_cell a b ≡ true → a ≡ b
unfolding same_cell
cell_same a b e =
    let t = and_true (eqb a.mark b.mark) (same_value a.value b.value) e in
    let p = eqb-true a.mark b.mark t.0 in
    let q = value_same a.value b.value t.1 in
    λ i. record { mark = p i; value = q i }

pub same_cell_is : (a : Cell) → same_cell a a ≡ true
unfolding same_cell
same_cell_is a = true_and (same_number a.mark) (same_value_is a.value)

-- equal, or not
pub value_or_not : (a b : Value) → (a ≡ b) ⊎ (a ≢ b)
value_or_not a b =
    either (bool (same_value a b))
    (λ t. inl (value_same a b t))
    (λ f. inr (λ e. clash_bool (ap (λ (x : Value). same_value a x) (sym e) ∙ same_value_is a) f))
