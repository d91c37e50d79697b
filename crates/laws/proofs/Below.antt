-- A test at every number below a bound: what it gives at each number, what gives it, and a finite search.
use mathlib.Core.Path.{◌≡◌, refl, sym, ap, subst, ◌∙◌}
use mathlib.Core.Logic.{◌⊎◌, inl, inr, ◌≢◌}
use mathlib.Core.Bool.{Bool, true, false, ◌&&◌}
use Prim.Native.Nat.{zero, suc, ◌<◌}
use native.Mathlib.Omega.{arith}
use Rattle.std.proofs.Common.{List, ◌+◌, ℕ, ◌≤◌, length, get_or, take}
use Rattle.std.specs.List.{list_all, range_with_len}
use Rattle.std.proofs.lemmas.List.Folds.{list_all_more}
use Rattle.laws.specs.Below.{below}
use Rattle.laws.proofs.Cases.{either, bool, eq_or_ne, and_true, true_and}

-- what passes at every number below the bound passes at each
pub below_at : (n : ℕ) (test : ℕ → Bool) → below n test ≡ true → (i : ℕ) → i < n → test i ≡ true
below_at zero test e i h = absurd (omega arith)
below_at (suc n) test e i h =
    let both = and_true (below n test) (test n) e in
    either (eq_or_ne i n)
    (λ (q : i ≡ n). ap test q ∙ both.1)
    (λ (d : i ≢ n). below_at n test both.0 i (omega arith))

-- what passes at each number below the bound passes at all
pub all_below : (n : ℕ) (test : ℕ → Bool) → ((i : ℕ) → i < n → test i ≡ true) → below n test ≡ true
all_below zero test f = refl
all_below (suc n) test f = true_and (all_below n test (λ i h. f i (omega arith))) (f n (omega arith))

-- a number that passes, or none does
pub search_below : (test : ℕ → Bool) (n : ℕ)
    → ((i : ℕ) × (i < n) × (test i ≡ true)) ⊎ ((i : ℕ) → i < n → test i ≡ false)
search_below test zero = inr (λ i h. absurd (omega arith))
search_below test (suc n) =
    either (search_below test n)
    (λ found. inl (found.0, omega (arith, found.1), found.2))
    (λ no_such. either (bool (test n))
    (λ t. inl (n, omega arith, t))
    (λ f. inr (λ i h. either (eq_or_ne i n) (λ (q : i ≡ n). ap test q ∙ f) (λ (d : i ≢ n). no_such i (omega arith)))))

-- what passes at every element of a list's beginning
pub below_all_of : {A : Type 0} (p : A → Bool) (d : A) (xs : List A) (n : ℕ) → n ≤ length xs
    → below n (λ i. p (get_or xs i d)) ≡ list_all p (take n xs)
below_all_of p d xs zero h = refl
below_all_of p d xs (suc n) h =
    let one : suc n ≡ n + 1 = omega arith in
    let step = list_all_more p xs n d (omega (arith, h)) in
    subst (λ m. below (suc n) (λ i. p (get_or xs i d)) ≡ list_all p (take m xs)) (sym one)
    (ap (λ b. b && p (get_or xs n d)) (below_all_of p d xs n (omega (arith, h))) ∙ sym step)

pub below_first : (test : ℕ → Bool) (n : ℕ) → below (suc n) test ≡ (test 0 && below n (λ i. test (suc i)))
below_first test zero = grind arith
below_first test (suc n) = grind (arith, below_first test n)

-- what passes at every number from one on
pub below_all_from : (test : ℕ → Bool) (a n : ℕ) → below n (λ i. test (a + i)) ≡ list_all test (range_with_len a n)
below_all_from test a zero = refl
below_all_from test a (suc n) =
    let here : a + 0 ≡ a = omega arith in
    let shift : (i : ℕ) → a + suc i ≡ a + 1 + i = λ i. omega arith in
    below_first (λ i. test (a + i)) n
    ∙ (λ k. test (here k) && below n (λ i. test (shift i k)))
    ∙ ap (λ b. test a && b) (below_all_from test (a + 1) n)

pub below_all : (test : ℕ → Bool) (n : ℕ) → below n test ≡ list_all test (range_with_len 0 n)
below_all test n =
    let shift : (i : ℕ) → i ≡ 0 + i = λ i. omega arith in
    (λ k. below n (λ i. test (shift i k))) ∙ below_all_from test 0 n
