-- Case splits, each with the equation that says which case it is, and tests joined by `&&` and `||`.
use Prim.Native.Nat.{ℕ, ◌≤◌, ◌<◌}
use native.Mathlib.Omega.{arith}
use mathlib.Core.Path.{◌≡◌, refl}
use mathlib.Core.Logic.{◌⊎◌, inl, inr, ◌≢◌}
use mathlib.Core.Bool.{Bool, true, false, ◌&&◌, ◌||◌}
use mathlib.Core.Option.{Option, none, some}
use borrow.Author.Tests.{eqb-true, eqb-false, ltb-true, ltb-false}
use lib.Dec.{eqb, ltb}

pub either {ℓ} : {A B : Type 0} {G : Type ℓ} → A ⊎ B → (A → G) → (B → G) → G
either (inl a) f g = f a
either (inr b) f g = g b

pub bool : (b : Bool) → (b ≡ true) ⊎ (b ≡ false)
bool true = inl refl
bool false = inr refl

pub option : {A : Type 0} (o : Option A) → (o ≡ none) ⊎ ((a : A) × (o ≡ some a))
option none = inl refl
option (some a) = inr (a, refl)

pub eq_or_ne : (i j : ℕ) → (i ≡ j) ⊎ (i ≢ j)
eq_or_ne i j = either (bool (eqb i j)) (λ t. inl (eqb-true i j t)) (λ f. inr (eqb-false i j f))

pub lt_or_ge : (i j : ℕ) → (i < j) ⊎ (j ≤ i)
lt_or_ge i j = either (bool (ltb i j)) (λ t. inl (ltb-true i j t)) (λ f. inr (ltb-false i j f))

-- two constructors are never equal
pub clash {ℓ} : {A : Type 0} {G : Type ℓ} {o : Option A} {a : A} → o ≡ none → o ≡ some a → G
clash e f = let z : ◌≡◌ {A = ℕ} 0 1 = cc in absurd (omega arith)

pub clash_bool {ℓ} : {G : Type ℓ} {b : Bool} → b ≡ true → b ≡ false → G
clash_bool e f = let z : ◌≡◌ {A = ℕ} 0 1 = cc in absurd (omega arith)

-- joined tests, taken apart and put together
pub and_true : (a b : Bool) → a && b ≡ true → (a ≡ true) × (b ≡ true)
and_true true b e = (refl, e)
and_true false b e = clash_bool e refl

pub true_and : {a b : Bool} → a ≡ true → b ≡ true → a && b ≡ true
true_and e f = rw (e, f)

pub and_false : (a b : Bool) → a && b ≡ false → (a ≡ false) ⊎ (b ≡ false)
and_false true b e = inr e
and_false false b e = inl refl

pub or_true : (a b : Bool) → a || b ≡ true → (a ≡ true) ⊎ (b ≡ true)
or_true true b e = inl refl
or_true false b e = inr e

pub true_or : {a : Bool} (b : Bool) → a ≡ true → a || b ≡ true
true_or b e = rw e

pub or_right : (a : Bool) {b : Bool} → b ≡ true → a || b ≡ true
or_right true e = refl
or_right false e = e

pub or_false : (a b : Bool) → a || b ≡ false → (a ≡ false) × (b ≡ false)
or_false true b e = clash_bool refl e
or_false false b e = (refl, e)
