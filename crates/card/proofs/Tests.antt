-- Tests 1 and 2: a card that passes them may be played on, and a turn on one that does not is refused with the test's number.
use mathlib.Core.Path.{◌≡◌}
use mathlib.Core.List.{List}
use Prim.Native.Nat.{ℕ}
use native.Mathlib.Omega.{arith}
use Rattle.laws.proofs.Cases.{either, bool}
use Rattle.model.specs.declared.Size.{Size}
use Rattle.model.specs.Table.{Card}
use Rattle.model.specs.Turn.{fits, refusal, turned, soundness}
use Rattle.model.specs.Sound.{sound}
use Rattle.play.specs.Playable.{Playable}

module _ (s : Size) (c : Card) where
  pub playable : soundness s c ≡ 0 → Playable s c
  unfolding soundness
  playable e =
      either (bool (fits s c.tables))
      (λ t. either (bool (sound s c))
      (λ u. record { fit = t; ok = u })
      (λ f. let z : ◌≡◌ {A = ℕ} 2 0 = rw (t, f) at e in absurd (omega arith)))
      (λ f. let z : ◌≡◌ {A = ℕ} 1 0 = rw f at e in absurd (omega arith))

  pub refused : (turn : List ℕ) (number : ℕ) → number ≡ soundness s c → (number ≡ 0 → ⊥)
      → record { number = number; card = c } ≡ turned s c turn
  unfolding soundness turned refusal
  refused turn number e n =
      either (bool (fits s c.tables))
      (λ t. either (bool (sound s c))
      (λ u. absurd (n (rw (t, u) at e)))
      (λ f. rw (e, t, f)))
      (λ f. rw (e, f))
