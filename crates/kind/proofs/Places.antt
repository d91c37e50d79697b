-- Where a step stands: its block, its place there, the lane of the block, and what each kind says of the place.
use mathlib.Core.Path.{◌≡◌}
use Prim.Native.Nat.{ℕ, ◌+◌, ◌*◌, ◌≤◌, ◌<◌}
use native.Mathlib.Omega.{arith}
use borrow.Author.Tests.{lt-ltb, le-ltb, eq-eqb, ne_eqb}
use Rattle.laws.proofs.Cases.{either, eq_or_ne, lt_or_ge}
use Rattle.model.proofs.Order.{lane_below}
use Rattle.model.proofs.Place.{place_below, block_in_round}
use Rattle.model.proofs.Ranges.{by_kind}
use Rattle.laws.proofs.Index.{product_le}
use Rattle.model.specs.declared.Size.{Size}
use Rattle.model.specs.declared.Kind.{Kind}
use Rattle.model.specs.declared.Kind.TheVariants.{Offer, Answer, FirstWrite, FirstRead, SecondWrite, SecondRead}
use Rattle.model.specs.Size.{block_steps, round_steps}
use Rattle.model.specs.Kind.{kind_of, block_at, place_at, first_read, second_read, lane_of, block_of}

module _ (s : Size) where
  pub steps_most : s.racks ≤ 8 → block_steps s ≤ 18
  unfolding block_steps
  steps_most h = omega arith

  -- "A round of one rack is 2 + k(2n + 2) steps": at most 74
  pub round_most : s.racks ≤ 8 → s.lanes ≤ 4 → s.lanes * block_steps s ≤ 72
  round_most h g = product_le {a = s.lanes} {b = block_steps s} {x = 4} {y = 18} g (steps_most h)

  pub round_steps_most : s.racks ≤ 8 → s.lanes ≤ 4 → round_steps s ≤ 74
  unfolding round_steps
  round_steps_most h g = omega (arith, round_most h g)

  pub lane_at_below : (first step : ℕ) → 1 ≤ s.lanes → first < s.lanes → step < round_steps s → lane_of first (block_at s step) < s.lanes
  lane_at_below first step h g l = lane_below first s.lanes (block_at s step) g (block_in_round s step h l)

pub block_of_most : (first lane : ℕ) → block_of first lane ≤ lane + 1
unfolding block_of
block_of_most first lane =
    either (eq_or_ne lane first)
    (λ (e : lane ≡ first). rw (eq-eqb lane first e) (omega arith))
    (λ n. either (lt_or_ge lane first)
    (λ l. rw (ne_eqb lane first n, lt-ltb lane first l) (omega arith))
    (λ l. rw (ne_eqb lane first n, le-ltb lane first l) (omega arith)))

-- a step in a block, at one of the places from low to high
pub record Among (s : Size) (step low high : ℕ) : Type 0 where
  pub later : 2 ≤ step
  pub from : low ≤ place_at s step
  pub to : place_at s step ≤ high

-- the ranges of each kind
abbrev Range : Size → ℕ → Kind → Type 0
Range s step Offer = step ≡ 0
Range s step Answer = step ≡ 1
Range s step FirstWrite = Among s step 0 0
Range s step FirstRead = Among s step 1 s.racks
Range s step SecondWrite = Among s step (s.racks + 1) (s.racks + 1)
Range s step SecondRead = Among s step (s.racks + 2) (2 * s.racks + 1)

range : (s : Size) (step : ℕ) → Range s step (kind_of s step)
unfolding block_steps
range s step =
    let b = place_below s step in
    by_kind s (Range s step) step (λ e. e) (λ e. e)
    (λ h e. record { later = h; from = omega arith; to = omega arith })
    (λ h f t. record { later = h; from = f; to = t })
    (λ h e. record { later = h; from = omega arith; to = omega arith })
    (λ h f. record { later = h; from = f; to = omega arith })

module _ (s : Size) (step : ℕ) where
  pub answer_step : kind_of s step ≡ Answer → step ≡ 1
  answer_step e = rw e at (range s step)

  pub first_write_place : kind_of s step ≡ FirstWrite → Among s step 0 0
  first_write_place e = rw e at (range s step)

  pub first_read_place : kind_of s step ≡ FirstRead → Among s step 1 s.racks
  first_read_place e = rw e at (range s step)

  pub second_write_place : kind_of s step ≡ SecondWrite → Among s step (s.racks + 1) (s.racks + 1)
  second_write_place e = rw e at (range s step)

  pub second_read_place : kind_of s step ≡ SecondRead → Among s step (s.racks + 2) (2 * s.racks + 1)
  second_read_place e = rw e at (range s step)

  -- the rack whose cell is read
  pub first_read_rack : kind_of s step ≡ FirstRead → first_read (place_at s step) < s.racks
  first_read_rack e = let w = first_read_place e in omega arith

  pub second_read_rack : kind_of s step ≡ SecondRead → second_read s (place_at s step) < s.racks
  second_read_rack e = let w = second_read_place e in omega arith
