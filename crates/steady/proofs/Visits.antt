-- In which order a rack visits its lanes, how many steps of each lane's block it has taken, and what it has read in its present block.
use mathlib.Core.Path.{◌≡◌, sym, ap, ◌∙◌}
use mathlib.Core.Logic.{◌≢◌}
use Prim.Native.Nat.{ℕ, ◌+◌, ◌*◌, ◌-◌, ◌≤◌, ◌<◌}
use native.Mathlib.Omega.{arith}
use native.Mathlib.Nat.{zero-mod}
use Rattle.laws.proofs.Cases.{either, lt_or_ge}
use Rattle.laws.proofs.Index.{rows_below}
use Rattle.model.proofs.Order.{lane_of_block, block_of_lane}
use Rattle.model.specs.declared.Size.{Size}
use Rattle.model.specs.declared.Rack.{Rack}
use Rattle.model.specs.Size.{block_steps}
use Rattle.model.specs.Kind.{block_at, place_at, lane_of, lane_at, block_of, steps_in, firsts_read, seconds_read}
use Rattle.model.proofs.Place.{Stands, stands}

module _ (s : Size) where
  -- nothing is taken or read before the first block
  module _ (r : Rack) (early : r.step ≤ 2) where
    pub none_taken : (lane : ℕ) → steps_in s r lane ≡ 0
    unfolding steps_in
    none_taken lane = omega arith

    at_start : r.step - 2 ≡ 0
    at_start = omega arith

    place_first : place_at s r.step ≡ 0
    unfolding place_at
    place_first = rw at_start (zero-mod (block_steps s))

    pub no_firsts : firsts_read s r ≡ 0
    unfolding firsts_read
    no_firsts = rw place_first (omega arith)

    pub no_seconds : seconds_read s r ≡ 0
    unfolding seconds_read
    no_seconds = rw place_first (omega arith)

  -- by the block of a lane and the block at work
  module _ (r : Rack) (lane block place : ℕ) (at : Stands s r.step block place) where
    pub all_taken : block_of r.first lane < block → steps_in s r lane ≡ block_steps s
    unfolding steps_in
    all_taken h =
        let e = at.counted in
        let a = rows_below {i = block_of r.first lane} {k = block} (block_steps s) h in
        omega arith

    some_taken : block_of r.first lane ≡ block → steps_in s r lane ≡ place
    unfolding steps_in
    some_taken h =
        let e = at.counted in
        let p = at.below in
        let a : block_of r.first lane * block_steps s ≡ block * block_steps s = ap (λ (x : ℕ). x * block_steps s) h in
        omega arith

  -- the lane at work is that of the block at work
  module _ (r : Rack) (lane : ℕ) where
    here_block : lane ≡ lane_at s r → block_of r.first lane ≡ block_at s r.step
    here_block e = ap (block_of r.first) e ∙ block_of_lane r.first (block_at s r.step)

    else_block : lane ≢ lane_at s r → block_of r.first lane ≢ block_at s r.step
    else_block d e = d (sym (lane_of_block r.first lane) ∙ ap (lane_of r.first) e)

    pub here_before : 2 ≤ r.step → lane ≡ lane_at s r → steps_in s r lane ≡ place_at s r.step
    here_before late e = some_taken r lane _ _ (stands s r.step late) (here_block e)

  -- one step on, in the lane at work and in the others
  module _ (r r' : Rack) (lane : ℕ) (late : 2 ≤ r.step) (on : r'.step ≡ r.step + 1) (same : r'.first ≡ r.first) where
    pub here_after : lane ≡ lane_at s r → steps_in s r' lane ≡ place_at s r.step + 1
    unfolding steps_in
    here_after e =
        let at = stands s r.step late in
        let c = at.counted in
        let p = at.below in
        let a : block_of r.first lane * block_steps s ≡ block_at s r.step * block_steps s = ap (λ (x : ℕ). x * block_steps s) (here_block r lane e) in
        rw (same, on) (omega arith)

    pub else_after : lane ≢ lane_at s r → steps_in s r' lane ≡ steps_in s r lane
    unfolding steps_in
    else_after d =
        let at = stands s r.step late in
        let c = at.counted in
        let p = at.below in
        rw (same, on)
        (either (lt_or_ge (block_of r.first lane) (block_at s r.step))
        (λ (l : block_of r.first lane < block_at s r.step).
        let a = rows_below {i = block_of r.first lane} {k = block_at s r.step} (block_steps s) l in
        omega arith)
        (λ (g : block_at s r.step ≤ block_of r.first lane).
        let a = rows_below {i = block_at s r.step} {k = block_of r.first lane} (block_steps s) (omega (arith, else_block r lane d)) in
        omega arith))
