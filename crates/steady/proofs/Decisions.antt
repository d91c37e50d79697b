-- The decision table: what a sound one gives at each place, and that a source that is there keeps it sound.
use mathlib.Core.Path.{◌≡◌}
use mathlib.Core.Logic.{◌≢◌}
use mathlib.Core.List.{List}
use mathlib.Core.Bool.{true, ◌||◌}
use Prim.Native.Nat.{ℕ, ◌*◌, ◌≤◌, ◌<◌}
use native.Mathlib.Omega.{arith}
use borrow.Author.Tests.{ltb-true, eqb-true, lt-ltb}
use lib.Dec.{eqb, ltb}
use lib.ListN.{length, get_or, set}
use lib.Seq.{get_or-set_same, get_or-set_other}
use Rattle.laws.proofs.Cases.{either, eq_or_ne, or_true, or_right}
use Rattle.laws.proofs.Below.{below_at, all_below}
use Rattle.model.specs.declared.Size.{Size}
use Rattle.model.specs.Size.{decisions_length}
use Rattle.model.specs.Table.{undecided, decision_index, decision_at}
use Rattle.model.specs.Sound.{sound_decisions}
use Rattle.model.proofs.Table.{decision_fits}

module _ (s : Size) (decisions : List ℕ) (ok : sound_decisions s decisions ≡ true) where
  decision_ok : (i : ℕ) → i < decisions_length s → eqb (get_or decisions i 0) undecided || ltb (get_or decisions i 0) s.racks ≡ true
  unfolding sound_decisions decisions_length
  decision_ok i h = below_at (s.rounds * s.lanes) _ ok i h

  -- a decision that was made names a rack that is there
  pub decided_source : (round lane : ℕ) → 1 ≤ round → round ≤ s.rounds → lane < s.lanes
      → decision_at s decisions round lane ≢ undecided → decision_at s decisions round lane < s.racks
  decided_source round lane a b c d =
      let i = decision_index s round lane in
      let e = decision_ok i (decision_fits s round lane a b c) in
      either (or_true (eqb (get_or decisions i 0) undecided) (ltb (get_or decisions i 0) s.racks) e)
      (λ t. absurd (d (eqb-true (get_or decisions i 0) undecided t)))
      (λ t. ltb-true (get_or decisions i 0) s.racks t)

  pub decide_sound : (i source : ℕ) → length decisions ≡ decisions_length s → source < s.racks → sound_decisions s (set decisions i source) ≡ true
  unfolding sound_decisions decisions_length
  decide_sound i source long h =
      all_below (s.rounds * s.lanes) _
      (λ j g. either (eq_or_ne j i)
      (λ (e : j ≡ i). let l : i < length decisions = omega arith in
      rw (e, get_or-set_same decisions i source 0 l) (or_right (eqb source undecided) (lt-ltb source s.racks h)))
      (λ (d : j ≢ i). rw (get_or-set_other decisions i j source 0 d) (decision_ok j g)))
