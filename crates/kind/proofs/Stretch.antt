-- The constant ranges of the stretched number are the ranges of the step number.
use mathlib.Core.Path.{◌≡◌, refl, sym, ap, ◌∙◌}
use mathlib.Core.Logic.{◌≢◌}
use mathlib.Core.Bool.{cond}
use Prim.Native.Nat.{ℕ, ◌+◌, ◌-◌, ◌≤◌, ◌<◌}
use native.Mathlib.Omega.{arith}
use lib.Dec.{ltb, leb}
use borrow.Author.Tests.{lt-ltb, le-ltb, le-leb, lt-leb}
use Rattle.laws.proofs.Cases.{either, lt_or_ge}
use Rattle.model.specs.declared.Size.{Size}
use Rattle.model.specs.declared.Kind.{Kind}
use Rattle.model.specs.declared.Kind.TheVariants.{Offer, Answer, FirstWrite, FirstRead, SecondWrite, SecondRead}
use Rattle.model.specs.Kind.{kind_of, kind_in, place_at}
use Rattle.kind.specs.Stretch.{stretch}

-- the kind by constant ranges
unfoldable pub const_kind : ℕ → Kind
const_kind z =
    cond (ltb z 1) Offer
    (cond (ltb z 2) Answer
    (cond (ltb z 3) FirstWrite
    (cond (ltb z 11) FirstRead
    (cond (ltb z 12) SecondWrite SecondRead))))

pub first_reads : (z : ℕ) → 3 ≤ z → z ≤ 10 → const_kind z ≡ FirstRead
unfolding const_kind
first_reads z a b = simp (le-ltb z 1 (omega arith), le-ltb z 2 (omega arith), le-ltb z 3 a, lt-ltb z 11 (omega arith))

pub second_reads : (z : ℕ) → 11 ≤ z → z ≢ 11 → const_kind z ≡ SecondRead
unfolding const_kind
second_reads z a n =
    simp (le-ltb z 1 (omega arith), le-ltb z 2 (omega arith), le-ltb z 3 (omega arith), le-ltb z 11 a, le-ltb z 12 (omega (arith, n)))

first_write : const_kind 2 ≡ FirstWrite
unfolding const_kind
first_write = refl

second_write : const_kind 11 ≡ SecondWrite
unfolding const_kind
second_write = refl

-- by the place in a block
in_block : (s : Size) (p : ℕ) → s.racks ≤ 8 → const_kind (cond (leb p s.racks) (p + 2) (p + 10 - s.racks)) ≡ kind_in s p
unfolding kind_in
in_block s p h =
    let n = s.racks in
    either (lt_or_ge n p)
    (λ (g : n < p). either (lt_or_ge p (n + 2))
    (λ (l : p < n + 2).
    let e : p + 10 - n ≡ 11 = omega arith in
    rw (lt-leb p n g, le-ltb p 1 (omega arith), le-ltb p (n + 1) (omega arith), lt-ltb p (n + 2) l, e) second_write)
    (λ (m : n + 2 ≤ p).
    rw (lt-leb p n g, le-ltb p 1 (omega arith), le-ltb p (n + 1) (omega arith), le-ltb p (n + 2) m)
    (second_reads (p + 10 - n) (omega arith) (λ e. omega arith))))
    (λ (g : p ≤ n). either (lt_or_ge p 1)
    (λ (l : p < 1).
    let e : p + 2 ≡ 2 = omega arith in
    rw (le-leb p n g, lt-ltb p 1 l, e) first_write)
    (λ (m : 1 ≤ p).
    rw (le-leb p n g, le-ltb p 1 m, lt-ltb p (n + 1) (omega arith)) (first_reads (p + 2) (omega arith) (omega arith))))

low : (z : ℕ) → z < 2 → const_kind z ≡ cond (ltb z 1) Offer Answer
unfolding const_kind
low z h = rw (lt-ltb z 2 h)

const_kind_is : (s : Size) (step : ℕ) → s.racks ≤ 8 → const_kind (stretch s step) ≡ kind_of s step
unfolding stretch kind_of
const_kind_is s step h =
    either (lt_or_ge step 2)
    (λ (l : step < 2). rw (lt-ltb step 2 l) (low step l))
    (λ (m : 2 ≤ step). rw (le-ltb step 2 m, le-ltb step 1 (omega arith)) (in_block s (place_at s step) h))

-- what an arm of the match shows
pub arm : (s : Size) (step z : ℕ) (kind : Kind) → s.racks ≤ 8 → z ≡ stretch s step → const_kind z ≡ kind → kind ≡ kind_of s step
arm s step z kind h e f = sym f ∙ ap const_kind e ∙ const_kind_is s step h

-- so each range of the stretched number shows its kind
module _ (s : Size) (step : ℕ) where
  shown : (kind : Kind) → s.racks ≤ 8 → const_kind (stretch s step) ≡ kind → kind ≡ kind_of s step
  shown kind h e = arm s step (stretch s step) kind h refl e

  pub offer_at : stretch s step ≡ 0 → s.racks ≤ 8 → Offer ≡ kind_of s step
  unfolding const_kind
  offer_at e h = shown Offer h (ap const_kind e)

  pub answer_at : stretch s step ≡ 1 → s.racks ≤ 8 → Answer ≡ kind_of s step
  unfolding const_kind
  answer_at e h = shown Answer h (ap const_kind e)

  pub first_write_at : stretch s step ≡ 2 → s.racks ≤ 8 → FirstWrite ≡ kind_of s step
  unfolding const_kind
  first_write_at e h = shown FirstWrite h (ap const_kind e)

  pub first_read_at : 3 ≤ stretch s step → stretch s step ≤ 10 → s.racks ≤ 8 → FirstRead ≡ kind_of s step
  first_read_at a b h = shown FirstRead h (first_reads (stretch s step) a b)

  pub second_write_at : stretch s step ≡ 11 → s.racks ≤ 8 → SecondWrite ≡ kind_of s step
  unfolding const_kind
  second_write_at e h = shown SecondWrite h (ap const_kind e)

  pub second_read_at : 11 < stretch s step → s.racks ≤ 8 → SecondRead ≡ kind_of s step
  second_read_at a h = shown SecondRead h (second_reads (stretch s step) (omega arith) (λ e. omega arith))

pub ruleset kinds = (offer_at, answer_at, first_write_at, first_read_at, second_write_at, second_read_at)
