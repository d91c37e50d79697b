-- The order in which a rack visits the lanes of a round, its first lane and then "each other lane in rising order": lanes and blocks
-- correspond one to one.
use mathlib.Core.Path.{◌≡◌, refl}
use mathlib.Core.Logic.{◌≢◌}
use Prim.Native.Nat.{ℕ, ◌+◌, ◌-◌, ◌≤◌, ◌<◌}
use native.Mathlib.Omega.{arith}
use borrow.Author.Tests.{eq-eqb, ne_eqb, lt-ltb, le-ltb, le-leb, lt-leb}
use Rattle.laws.proofs.Cases.{either, eq_or_ne, lt_or_ge}
use Rattle.model.specs.Kind.{lane_of, block_of}

module _ (first : ℕ) where
  pub lane_of_block : (lane : ℕ) → lane_of first (block_of first lane) ≡ lane
  unfolding lane_of block_of
  lane_of_block lane =
      either (eq_or_ne lane first)
      (λ (e : lane ≡ first). rw (eq-eqb lane first e) (omega arith))
      (λ (d : lane ≢ first). rw (ne_eqb lane first d)
      (either (lt_or_ge lane first)
      (λ (l : lane < first).
      rw (lt-ltb lane first l, ne_eqb (lane + 1) 0 (omega arith), le-leb (lane + 1) first (omega arith)) (omega arith))
      (λ (g : first ≤ lane).
      rw (le-ltb lane first g, ne_eqb lane 0 (omega arith), lt-leb lane first (omega arith)))))

  pub block_of_lane : (block : ℕ) → block_of first (lane_of first block) ≡ block
  unfolding lane_of block_of
  block_of_lane block =
      either (eq_or_ne block 0)
      (λ (e : block ≡ 0). rw (eq-eqb block 0 e, eq-eqb first first refl) (omega arith))
      (λ (d : block ≢ 0). rw (ne_eqb block 0 d)
      (either (lt_or_ge first block)
      (λ (l : first < block).
      rw (lt-leb block first l, ne_eqb block first (omega arith), le-ltb block first (omega arith)))
      (λ (g : block ≤ first).
      rw (le-leb block first g, ne_eqb (block - 1) first (omega arith), lt-ltb (block - 1) first (omega arith)) (omega arith))))

  -- no lane that is there is visited after the last block
  pub block_below : (k lane : ℕ) → first < k → lane < k → block_of first lane < k
  unfolding block_of
  block_below k lane f l =
      either (eq_or_ne lane first)
      (λ (e : lane ≡ first). rw (eq-eqb lane first e) (omega arith))
      (λ (d : lane ≢ first). rw (ne_eqb lane first d)
      (either (lt_or_ge lane first)
      (λ (b : lane < first). rw (lt-ltb lane first b) (omega arith))
      (λ (g : first ≤ lane). rw (le-ltb lane first g) l)))

  -- and no block's lane is past the last lane
  pub lane_below : (k block : ℕ) → first < k → block < k → lane_of first block < k
  unfolding lane_of
  lane_below k block h g =
      either (eq_or_ne block 0)
      (λ (e : block ≡ 0). rw (eq-eqb block 0 e) h)
      (λ (d : block ≢ 0). rw (ne_eqb block 0 d)
      (either (lt_or_ge first block)
      (λ (l : first < block). rw (lt-leb block first l) g)
      (λ (i : block ≤ first). rw (le-leb block first i) (omega arith))))
