-- What a sound clock and first lane say: the cells and the decision of the rack's present round are there. And what a rack has not yet done
-- needs no cell.
use mathlib.Core.Path.{◌≡◌}
use mathlib.Core.List.{List}
use mathlib.Core.Bool.{true, ◌&&◌, ◌||◌}
use Prim.Native.Nat.{ℕ, ◌+◌, ◌*◌, ◌-◌, ◌≤◌, ◌<◌}
use native.Mathlib.Omega.{arith}
use lib.Dec.{eqb, ltb, leb}
use lib.ListN.{get_or}
use borrow.Author.Tests.{ltb-true, leb-true, eqb-true, le-ltb, ne_eqb}
use Rattle.laws.proofs.Cases.{either, and_true, or_true}
use Rattle.laws.proofs.Below.{below_at}
use Rattle.model.specs.declared.Size.{Size}
use Rattle.model.specs.declared.Rack.{Rack}
use Rattle.model.specs.Size.{within, round_steps, block_steps}
use Rattle.model.specs.Table.{Tables, undecided, decision_index, decision_at}
use Rattle.model.specs.Kind.{place_at, lane_at, steps_in, firsts_read, seconds_read}
use Rattle.model.specs.Sound.{sound_cells, sound_decisions, sound_logs, sound_tables, sound_clock, sound_first}
use Rattle.model.proofs.Table.{row_below}
use Rattle.cells.specs.Here.{Here}
use Rattle.model.proofs.Sizes.{sizes, rows_most}
use Rattle.kind.proofs.Places.{lane_at_below}
use Rattle.sound.specs.Clocked.{Clocked}

-- sound tables have sound decisions
pub decisions_tested : (s : Size) (t : Tables) → sound_tables s t ≡ true → sound_decisions s t.decisions ≡ true
unfolding sound_tables
decisions_tested s t e =
    let a = and_true (sound_cells s t.cells) (sound_decisions s t.decisions && sound_logs s t.logs) e in
    (and_true (sound_decisions s t.decisions) (sound_logs s t.logs) a.1).0

pub record Clock (s : Size) (r : Rack) : Type 0 where
  pub round_low : 1 ≤ r.round
  pub on : 1 ≤ r.step → r.round ≤ s.rounds
  pub step_below : r.step < round_steps s

pub clock : (s : Size) (r : Rack) → sound_clock s r ≡ true → Clock s r
unfolding sound_clock
clock s r e =
    let a = and_true (within 1 (s.rounds + 1) r.round) ((leb r.round s.rounds || eqb r.step 0) && ltb r.step (round_steps s)) e in
    let b = and_true (leb 1 r.round) (leb r.round (s.rounds + 1)) a.0 in
    let d = and_true (leb r.round s.rounds || eqb r.step 0) (ltb r.step (round_steps s)) a.1 in
    record {
      round_low = leb-true 1 r.round b.0;
      on = λ h. either (or_true (leb r.round s.rounds) (eqb r.step 0) d.0)
          (λ t. leb-true r.round s.rounds t)
          (λ t. absurd (omega (arith, eqb-true r.step 0 t)));
      step_below = ltb-true r.step (round_steps s) d.1;
    }

pub first_there : (s : Size) (r : Rack) → sound_first s r ≡ true → 2 ≤ r.step → r.first < s.lanes
unfolding sound_first
first_there s r e h = ltb-true r.first s.lanes (rw (le-ltb r.step 2 h) at e)

pub record Choice (s : Size) (r : Rack) : Type 0 where
  pub first : r.first < s.lanes
  pub row : (r.round - 1) * s.lanes + r.first < s.rounds * s.lanes
  pub rows : s.rounds * s.lanes ≤ 256

module _ {s : Size} {cells : List ℕ} {r : Rack} (k : Clocked s cells r) where
  -- a cell of the present round
  pub here : (section lane rack : ℕ) → section < 3 → 1 ≤ r.step → lane < s.lanes → rack < s.racks → Here s cells section r.round lane rack
  here section lane rack a h b d =
      let t = clock s r k.clock in
      record {
        size = k.size;
        exact = k.exact;
        spot = record { section_there = a; round_low = t.round_low; round_high = t.on h; lane_there = b; rack_there = d };
      }

  -- the decision of the first lane
  pub choice : 2 ≤ r.step → Choice s r
  choice h =
      let t = clock s r k.clock in
      let z = sizes s k.size in
      let f = first_there s r k.first_lane h in
      record {
        first = f;
        row = row_below s r.round r.first t.round_low (t.on (omega arith)) f;
        rows = rows_most s z;
      }

  -- a source that is decided is there
  pub source_there : (decisions : List ℕ) → sound_decisions s decisions ≡ true → 2 ≤ r.step
      → (decision_at s decisions r.round r.first ≡ undecided → ⊥) → decision_at s decisions r.round r.first < s.racks
  unfolding sound_decisions decision_index
  source_there decisions e h n =
      let d = decision_at s decisions r.round r.first in
      let t = below_at (s.rounds * s.lanes) (λ i. eqb (get_or decisions i 0) undecided || ltb (get_or decisions i 0) s.racks) e _ (choice h).row in
      ltb-true d s.racks (rw (ne_eqb d undecided n) at t)

  -- the lane of the present block
  pub lane_there : 2 ≤ r.step → lane_at s r < s.lanes
  lane_there h =
      lane_at_below s r.first r.step (sizes s k.size).lanes_low (choice h).first (clock s r k.clock).step_below

module _ (s : Size) (r : Rack) where
  -- a step of a block comes after the leading two
  place_most : place_at s r.step ≤ r.step - 2
  unfolding place_at block_steps
  place_most = omega arith

  pub firsts_begun : firsts_read s r ≤ r.step - 2
  unfolding firsts_read
  firsts_begun = omega (arith, place_most)

  pub seconds_begun : seconds_read s r ≤ r.step - 2
  unfolding seconds_read
  seconds_begun = omega (arith, place_most)

  pub block_begun : (lane : ℕ) → steps_in s r lane ≤ r.step - 2
  unfolding steps_in
  block_begun lane = omega arith

-- where a rack whose clock and first lane are sound stands: what is looked at there is there
pub ruleset present = (sizes, clock, here, choice, source_there, lane_there, firsts_begun, seconds_begun, block_begun)
