-- Places in tables of rows: i * n + r.
use mathlib.Core.Path.{◌≡◌, ap}
use Prim.Native.Nat.{ℕ, suc, ◌+◌, ◌*◌, ◌≤◌, ◌<◌}
use native.Mathlib.Omega.{arith}
use native.Mathlib.Nat.{mul-le-mul, suc-mul}
use Rattle.laws.proofs.Cases.{either, lt_or_ge}

-- whole rows end where the next one starts
pub rows_below : {i k : ℕ} (n : ℕ) → i < k → i * n + n ≤ k * n
rows_below {i} {k} n h =
    let p : suc i * n ≤ k * n = mul-le-mul h (le_self n) in
    let e : suc i * n ≡ i * n + n = suc-mul i n in
    omega arith
  where
    le_self : (n : ℕ) → n ≤ n
    le_self n = omega arith

-- row i, column r of k rows of n
pub cell_below : {i k r n : ℕ} → i < k → r < n → i * n + r < k * n
cell_below {i} {k} {r} {n} h g = let p = rows_below {i = i} {k = k} n h in omega arith

pub product_le : {a b x y : ℕ} → a ≤ x → b ≤ y → a * b ≤ x * y
product_le h g = mul-le-mul h g

-- two places are the same only if their rows and columns are
pub same_row : {n : ℕ} (i r j q : ℕ) → r < n → q < n → i * n + r ≡ j * n + q → i ≡ j
same_row {n} i r j q h g e =
    either (lt_or_ge i j)
    (λ (l : i < j). absurd (no_lower i r j q h l e))
    (λ (m : j ≤ i). either (lt_or_ge j i)
    (λ (l : j < i). absurd (no_lower j q i r g l (flip e)))
    (λ (m' : i ≤ j). omega arith))
  where
    no_lower : (i r j q : ℕ) → r < n → i < j → i * n + r ≡ j * n + q → ⊥
    no_lower i r j q h l e =
        let p : suc i * n ≤ j * n = mul-le-mul l (le_self n) in
        let f : suc i * n ≡ i * n + n = suc-mul i n in
        omega arith
      where
        le_self : (n : ℕ) → n ≤ n
        le_self n = omega arith

    flip : i * n + r ≡ j * n + q → j * n + q ≡ i * n + r
    flip e = omega arith

pub same_column : {n : ℕ} (i r j q : ℕ) → r < n → q < n → i * n + r ≡ j * n + q → r ≡ q
same_column {n} i r j q h g e =
    let f = ap (λ (x : ℕ). x * n) (same_row {n = n} i r j q h g e) in
    omega arith
