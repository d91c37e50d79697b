-- The kind of a step, by the range of its number.
use mathlib.Core.Path.{◌≡◌}
use Prim.Native.Nat.{ℕ, ◌+◌, ◌≤◌, ◌<◌}
use native.Mathlib.Omega.{arith}
use borrow.Author.Tests.{lt-ltb, le-ltb}
use Rattle.laws.proofs.Cases.{either, lt_or_ge}
use Rattle.model.specs.declared.Size.{Size}
use Rattle.model.specs.declared.Kind.{Kind}
use Rattle.model.specs.declared.Kind.TheVariants.{Offer, Answer, FirstWrite, FirstRead, SecondWrite, SecondRead}
use Rattle.model.specs.Kind.{place_at, kind_in, kind_of}

module _ (s : Size) (P : Kind → Type 0) where
  by_place : (place : ℕ)
      → (place ≡ 0 → P FirstWrite) → (1 ≤ place → place ≤ s.racks → P FirstRead)
      → (place ≡ s.racks + 1 → P SecondWrite) → (s.racks + 2 ≤ place → P SecondRead)
      → P (kind_in s place)
  unfolding kind_in
  by_place place first_write first_read second_write second_read_is =
      either (lt_or_ge place 1)
      (λ (h : place < 1). rw (lt-ltb place 1 h) (first_write (omega arith)))
      (λ (h : 1 ≤ place). rw (le-ltb place 1 h)
      (either (lt_or_ge place (s.racks + 1))
      (λ (g : place < s.racks + 1). rw (lt-ltb place (s.racks + 1) g) (first_read h (omega arith)))
      (λ (g : s.racks + 1 ≤ place). rw (le-ltb place (s.racks + 1) g)
      (either (lt_or_ge place (s.racks + 2))
      (λ (l : place < s.racks + 2). rw (lt-ltb place (s.racks + 2) l) (second_write (omega arith)))
      (λ (l : s.racks + 2 ≤ place). rw (le-ltb place (s.racks + 2) l) (second_read_is l))))))

  pub by_kind : (step : ℕ)
      → (step ≡ 0 → P Offer) → (step ≡ 1 → P Answer)
      → (2 ≤ step → place_at s step ≡ 0 → P FirstWrite)
      → (2 ≤ step → 1 ≤ place_at s step → place_at s step ≤ s.racks → P FirstRead)
      → (2 ≤ step → place_at s step ≡ s.racks + 1 → P SecondWrite)
      → (2 ≤ step → s.racks + 2 ≤ place_at s step → P SecondRead)
      → P (kind_of s step)
  unfolding kind_of
  by_kind step offer answer first_write first_read second_write second_read_is =
      either (lt_or_ge step 1)
      (λ (h : step < 1). rw (lt-ltb step 1 h) (offer (omega arith)))
      (λ (h : 1 ≤ step). rw (le-ltb step 1 h)
      (either (lt_or_ge step 2)
      (λ (g : step < 2). rw (lt-ltb step 2 g) (answer (omega arith)))
      (λ (g : 2 ≤ step). rw (le-ltb step 2 g)
      (by_place (place_at s step) (first_write g) (first_read g) (second_write g) (second_read_is g)))))
