-- A test at every number below a bound.
use Rattle.std.specs.Prelude.{Bool, true, ◌&&◌, ℕ, zero, suc}

-- the test passes at every number below the bound
abbrev pub below : ℕ → (ℕ → Bool) → Bool
below zero test = true
below (suc n) test = below n test && test n
