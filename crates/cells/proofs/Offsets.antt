-- An offset as the code has it, `x + 7`, is the one that a run of stores has.
use mathlib.Core.Path.{◌≡◌}
use Prim.Native.Nat.{ℕ, suc, ◌+◌}
use native.Mathlib.Omega.{arith}

pub at1 : (x : ℕ) → x + 1 ≡ suc x
at1 x = omega arith

pub at2 : (x : ℕ) → x + 2 ≡ suc (suc x)
at2 x = omega arith

pub at3 : (x : ℕ) → x + 3 ≡ suc (suc (suc x))
at3 x = omega arith

pub at4 : (x : ℕ) → x + 4 ≡ suc (suc (suc (suc x)))
at4 x = omega arith

pub at5 : (x : ℕ) → x + 5 ≡ suc (suc (suc (suc (suc x))))
at5 x = omega arith

pub at6 : (x : ℕ) → x + 6 ≡ suc (suc (suc (suc (suc (suc x)))))
at6 x = omega arith

pub at7 : (x : ℕ) → x + 7 ≡ suc (suc (suc (suc (suc (suc (suc x))))))
at7 x = omega arith
