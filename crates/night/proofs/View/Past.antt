-- A point of a round that no rack has passed before it reaches the round, and that each has passed after it.
use mathlib.Core.Path.{◌≡◌, refl}
use mathlib.Core.Logic.{◌≢◌}
use mathlib.Core.Bool.{Bool, true, false}
use Prim.Native.Nat.{ℕ, ◌≤◌, ◌<◌}
use native.Mathlib.Omega.{arith}
use Rattle.laws.proofs.Cases.{either, bool, eq_or_ne, clash_bool}
use Rattle.protocol.specs.History.{is_past}
use Rattle.protocol.proofs.Invariant.{past_cases, past_before, past_now, past_reached}

module _ (finished r : ℕ) where
  pub ahead : (now : Bool) → finished < r → is_past finished r now ≡ false
  ahead now h =
      either (bool (is_past finished r now))
      (λ e. let g = past_reached finished r now e in absurd (omega arith))
      (λ e. e)

  -- a point that is not past in the present round
  pub not_yet : finished ≤ r → is_past finished r false ≡ false
  not_yet h =
      either (bool (is_past finished r false))
      (λ e. either (past_cases finished r false e) (λ g. absurd (omega arith)) (λ g. clash_bool g.1 refl))
      (λ e. e)

  -- one that is
  pub by_now : r ≤ finished → is_past finished r true ≡ true
  by_now h =
      either (eq_or_ne r finished)
      (λ (e : r ≡ finished). rw e (past_now finished))
      (λ (d : r ≢ finished). past_before finished r true (omega (arith, d)))
