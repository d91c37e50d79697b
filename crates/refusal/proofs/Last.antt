-- A round's last step is the read of a second cell, and test 8 reads two tables only.
use mathlib.Core.Path.{◌≡◌, refl}
use mathlib.Core.Bool.{true}
use Prim.Native.Nat.{ℕ, ◌+◌, ◌≤◌}
use native.Mathlib.Omega.{arith}
use native.Mathlib.Nat.{le_refl}
use borrow.Author.Tests.{eqb-true, le-ltb}
use Rattle.laws.proofs.Index.{product_le}
use Rattle.model.specs.declared.Size.{Size}
use Rattle.model.specs.declared.Rack.{Rack}
use Rattle.model.specs.declared.Kind.TheVariants.{SecondRead}
use Rattle.model.specs.Size.{block_steps, round_steps, most_rounds}
use Rattle.model.specs.Kind.{kind_of, kind_in, place_at}
use Rattle.model.specs.Step.{is_last}
use Rattle.model.specs.Table.{Tables}
use Rattle.model.specs.Turn.{overfull}
use Rattle.model.proofs.Sizes.{Sizes}
use Rattle.model.proofs.Place.{block_long, stands, block_below, last_place}
use Rattle.refusal.specs.Tests.{overfull_in}

module _ (s : Size) (r : Rack) (z : Sizes most_rounds s) (last : is_last s r ≡ true) where
  whole : r.step + 1 ≡ round_steps s
  unfolding is_last
  whole = eqb-true (r.step + 1) (round_steps s) last

  -- a round has at least one block
  later : 2 ≤ r.step
  unfolding round_steps
  later =
      let b = block_long s in
      let e = product_le {a = 1} {b = block_steps s} {x = s.lanes} {y = block_steps s} z.lanes_low (le_refl (block_steps s)) in
      omega (arith, whole)

  -- its place is the last of its block
  at_end : place_at s r.step + 1 ≡ block_steps s
  at_end =
      let at = stands s r.step later in
      last_place s r.step _ _ at whole (block_below s r.step _ _ at (omega (arith, whole)))

  past : s.racks + 2 ≤ place_at s r.step
  unfolding block_steps
  past = omega (arith, at_end, z.racks_low)

  pub last_kind : kind_of s r.step ≡ SecondRead
  unfolding kind_of kind_in
  last_kind =
      let p = past in
      let l = later in
      rw (le-ltb r.step 1 (omega arith), le-ltb r.step 2 l, le-ltb (place_at s r.step) 1 (omega arith), le-ltb (place_at s r.step) (s.racks + 1) (omega arith), le-ltb (place_at s r.step) (s.racks + 2) p)

pub overfull_in_is : (s : Size) (t : Tables) (rack : ℕ) (r : Rack) → overfull s t rack r ≡ overfull_in s t.cells t.logs rack r
unfolding overfull overfull_in
overfull_in_is s t rack r = refl
