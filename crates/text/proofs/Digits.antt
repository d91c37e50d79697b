-- A number in decimal, by its front and its last digits, and how long it is.
use mathlib.Core.Path.{◌≡◌, ap, ◌∙◌}
use mathlib.Core.List.{List, [], ◌∷◌, ◌++◌, append_assoc}
use Prim.Native.Nat.{ℕ, zero, suc, ◌+◌, ◌*◌, ◌/◌, ◌%◌, ◌^◌, ◌≤◌, ◌<◌}
use native.Mathlib.Omega.{arith}
use borrow.Author.Tests.{lt-ltb, le-ltb}
use lib.ListN.{length, length-append}
use Rattle.laws.specs.Text.{digits, decimal}
use Rattle.laws.proofs.Cases.{either, lt_or_ge}
use Rattle.text.specs.Lines.{two_digits}

-- how many digits are allowed does not matter, if they are enough
digits_same : (m k n : ℕ) → n < m → n < k → digits m n ≡ digits k n
digits_same zero k n h g = absurd (omega arith)
digits_same (suc m) zero n h g = absurd (omega arith)
digits_same (suc m) (suc k) n h g =
    either (lt_or_ge n 10)
    (λ (l : n < 10). rw (lt-ltb n 10 l))
    (λ (l : 10 ≤ n). rw (le-ltb n 10 l, digits_same m k (n / 10) (omega arith) (omega arith)))

-- a number below 10 is its digit
pub decimal_less : (n : ℕ) → n < 10 → decimal n ≡ (48 + n) ∷ []
decimal_less n h = rw (lt-ltb n 10 h)

-- a number from 10 on: the front, then the last digit
pub decimal_more : (n : ℕ) → 10 ≤ n → decimal n ≡ decimal (n / 10) ++ ((48 + n % 10) ∷ [])
decimal_more n h =
    let e : digits n (n / 10) ≡ decimal (n / 10) = digits_same n (suc (n / 10)) (n / 10) (omega arith) (omega arith) in
    rw (le-ltb n 10 h, e)

-- a number from 10 to 99 is both its digits
pub decimal_pair : (n : ℕ) → 10 ≤ n → n < 100 → decimal n ≡ two_digits n
decimal_pair n h g = decimal_more n h ∙ ap (λ (front : List ℕ). front ++ ((48 + n % 10) ∷ [])) (decimal_less (n / 10) (omega arith))

-- a number from 100 on: the front, then the last two digits
pub decimal_hundred : (n : ℕ) → 100 ≤ n → decimal n ≡ decimal (n / 100) ++ two_digits (n % 100)
decimal_hundred n h =
    let front : n / 10 / 10 ≡ n / 100 = omega arith in
    let tens : n / 10 % 10 ≡ n % 100 / 10 = omega arith in
    let ones : n % 10 ≡ n % 100 % 10 = omega arith in
    decimal_more n (omega arith)
    ∙ ap (λ (x : List ℕ). x ++ ((48 + n % 10) ∷ [])) (decimal_more (n / 10) (omega arith))
    ∙ append_assoc (decimal (n / 10 / 10)) ((48 + n / 10 % 10) ∷ []) ((48 + n % 10) ∷ [])
    ∙ (λ i. decimal (front i) ++ ((48 + tens i) ∷ (48 + ones i) ∷ []))

-- 10 to a power
ten_to : ℕ → ℕ
ten_to zero = 1
ten_to (suc k) = 10 * ten_to k

-- a number below 10 to the power k + 1 has at most k + 1 digits
digits_most : (k n : ℕ) → n < ten_to (suc k) → length (decimal n) ≤ suc k
unfolding ten_to
digits_most zero n h = rw (decimal_less n h) (omega arith)
digits_most (suc k) n h =
    either (lt_or_ge n 10)
    (λ (l : n < 10). rw (decimal_less n l) (omega arith))
    (λ (l : 10 ≤ n). rw (decimal_more n l, length-append) (omega (arith, digits_most k (n / 10) (omega arith))))

-- a number below 2 ^ 64 has at most 20 digits
pub decimal_most : (n : ℕ) → n < 2 ^ 64 → length (decimal n) ≤ 20
unfolding ten_to
decimal_most n h = digits_most 19 n (omega arith)

-- what stands before its last two has at most 18
pub front_most : (n : ℕ) → n < 2 ^ 64 → length (decimal (n / 100)) ≤ 18
unfolding ten_to
front_most n h = digits_most 17 (n / 100) (omega arith)
