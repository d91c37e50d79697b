-- Where a rack stands in its round: the block and the place of a step, and of the step after it.
use mathlib.Core.Path.{◌≡◌, ap, ◌∙◌}
use Prim.Native.Nat.{ℕ, suc, ◌+◌, ◌*◌, ◌-◌, ◌/◌, ◌%◌, ◌≤◌, ◌<◌}
use native.Mathlib.Omega.{arith}
use native.Mathlib.Nat.{le_refl, mul-le-mul, suc-mul, div-add-mod', mod-lt, mul-add-div_right, div-eq_of_lt, mul-add-mod_self_right, mod-eq_of_lt}
use Rattle.laws.proofs.Cases.{either, lt_or_ge}
use Rattle.laws.proofs.Index.{rows_below}
use Rattle.model.specs.declared.Size.{Size}
use Rattle.model.specs.Size.{block_steps, round_steps}
use Rattle.model.specs.Kind.{block_at, place_at}

module _ (s : Size) where
  pub block_long : 2 ≤ block_steps s
  unfolding block_steps
  block_long = omega arith

  pub place_below : (step : ℕ) → place_at s step < block_steps s
  unfolding place_at
  place_below step = let b = block_long in mod-lt (step - 2) (omega arith)

  -- a step past the answer, by its block and its place there
  pub record Stands (step block place : ℕ) : Type 0 where
    pub counted : step ≡ 2 + (block * block_steps s + place)
    pub below : place < block_steps s

  pub stands : (step : ℕ) → 2 ≤ step → Stands step (block_at s step) (place_at s step)
  unfolding block_at place_at
  stands step h =
      let e = div-add-mod' (step - 2) (block_steps s) in
      record { counted = omega arith; below = place_below step }

  module _ (step block place : ℕ) (at : Stands step block place) where
    behind : step - 2 ≡ block * block_steps s + place
    behind = let e = at.counted in omega arith

    pub stands_block : block_at s step ≡ block
    unfolding block_at
    stands_block =
        let b = block_long in
        let e : (block * block_steps s + place) / block_steps s ≡ block + place / block_steps s =
        mul-add-div_right {m = block_steps s} (omega arith) block place
        in
        let f : place / block_steps s ≡ 0 = div-eq_of_lt at.below in
        let g : (step - 2) / block_steps s ≡ (block * block_steps s + place) / block_steps s = ap (λ (x : ℕ). x / block_steps s) behind in
        omega arith

    pub stands_place : place_at s step ≡ place
    unfolding place_at
    stands_place =
        ap (λ (x : ℕ). x % block_steps s) behind
        ∙ mul-add-mod_self_right block (block_steps s) place
        ∙ mod-eq_of_lt at.below

    pub stands_on : place + 1 < block_steps s → Stands (step + 1) block (place + 1)
    stands_on h = let e = at.counted in record { counted = omega arith; below = h }

    pub stands_over : place + 1 ≡ block_steps s → Stands (step + 1) (block + 1) 0
    stands_over h =
        let e = at.counted in
        let f : suc block * block_steps s ≡ block * block_steps s + block_steps s = suc-mul block (block_steps s) in
        let g : block + 1 ≡ suc block = omega arith in
        let i : (block + 1) * block_steps s ≡ suc block * block_steps s = ap (λ (x : ℕ). x * block_steps s) g in
        let b = block_long in
        record { counted = omega arith; below = omega arith }

    pub block_below : step < round_steps s → block < s.lanes
    unfolding round_steps
    block_below h =
        either (lt_or_ge block s.lanes)
        (λ (l : block < s.lanes). l)
        (λ (g : s.lanes ≤ block).
        let e = at.counted in
        let p : s.lanes * block_steps s ≤ block * block_steps s = mul-le-mul g (le_refl (block_steps s)) in
        absurd (omega arith))

    -- the round's last step is the last of its last block
    module _ (last : step + 1 ≡ round_steps s) (there : block < s.lanes) where
      pub last_block : block + 1 ≡ s.lanes
      unfolding round_steps
      last_block =
          either (lt_or_ge (block + 1) s.lanes)
          (λ (l : block + 1 < s.lanes).
          let e = at.counted in
          let p = at.below in
          let a = rows_below {i = block} {k = block + 1} (block_steps s) (omega arith) in
          let c = rows_below {i = block + 1} {k = s.lanes} (block_steps s) l in
          absurd (omega arith))
          (λ (g : s.lanes ≤ block + 1). omega arith)

      pub last_place : place + 1 ≡ block_steps s
      unfolding round_steps
      last_place =
          let e = at.counted in
          let p = at.below in
          let a = rows_below {i = block} {k = s.lanes} (block_steps s) there in
          let f : (block + 1) * block_steps s ≡ s.lanes * block_steps s = ap (λ (x : ℕ). x * block_steps s) last_block in
          let g : suc block * block_steps s ≡ block * block_steps s + block_steps s = suc-mul block (block_steps s) in
          let i : (block + 1) * block_steps s ≡ suc block * block_steps s = ap (λ (x : ℕ). x * block_steps s) one_more in
          omega arith
        where
          one_more : block + 1 ≡ suc block
          one_more = omega arith

  -- a step of a round is in one of its blocks, or before the first
  pub block_in_round : (step : ℕ) → 1 ≤ s.lanes → step < round_steps s → block_at s step < s.lanes
  unfolding block_at
  block_in_round step h g =
      either (lt_or_ge step 2)
      (λ (l : step < 2).
      let b = block_long in
      let z : (step - 2) / block_steps s ≡ 0 = div-eq_of_lt (omega arith) in
      omega arith)
      (λ (m : 2 ≤ step). block_below step _ _ (stands step m) g)
