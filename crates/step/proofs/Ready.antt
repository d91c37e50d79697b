-- A sound card gives what a step requires, and no refusal what its kind requires.
use mathlib.Core.Path.{◌≡◌, refl}
use mathlib.Core.Bool.{Bool, true, false, cond, not, ◌&&◌, ◌||◌}
use Prim.Native.Nat.{ℕ, ◌+◌, ◌≤◌, ◌<◌}
use native.Mathlib.Omega.{arith}
use borrow.Author.Tests.{ltb-true, ltb-false, leb-true, leb-false, eqb-true, eqb-false, not-true, le-ltb, eq-eqb}
use lib.Dec.{eqb, ltb, leb}
use lib.ListN.{get_or}
use Rattle.laws.proofs.Cases.{either, and_true, or_true, or_false}
use Rattle.laws.proofs.Below.{below_at}
use Rattle.model.specs.declared.Size.{Size}
use Rattle.model.specs.declared.Rack.{Rack}
use Rattle.model.specs.Size.{within, decisions_length, leading, round_steps}
use Rattle.model.specs.Record.{is_empty}
use Rattle.model.specs.Table.{Tables, offers, cell_now, undecided, decision_index, decision_at}
use Rattle.model.specs.Settle.{too_long}
use Rattle.model.specs.Step.{after_second_read, is_last}
use Rattle.model.specs.Sound.{sound_decisions, sound_clock, sound_first, sound_gathered, sound_choice, sound_rack}
use Rattle.model.specs.Turn.{fits, finished, misnamed, not_offered, decided_else, overfull, refusal_of}
use Rattle.model.proofs.Sizes.{fits_exact}
use Rattle.model.proofs.Table.{decision_fits}
use Rattle.step.specs.Ready.{Tested, Ready}

-- a sound clock, as named facts
record Clock (s : Size) (r : Rack) : Type 0 where
  low : 1 ≤ r.round
  high : leading ≤ r.step → r.round ≤ s.rounds
  below : r.step < round_steps s

clock : (s : Size) (r : Rack) → sound_clock s r ≡ true → Clock s r
unfolding sound_clock
clock s r e =
    let p = and_true (within 1 (s.rounds + 1) r.round) ((leb r.round s.rounds || eqb r.step 0) && ltb r.step (round_steps s)) e in
    let q = and_true (leb r.round s.rounds || eqb r.step 0) (ltb r.step (round_steps s)) p.1 in
    record {
      low = leb-true 1 r.round (and_true (leb 1 r.round) (leb r.round (s.rounds + 1)) p.0).0;
      high =
          λ h.
          either (or_true (leb r.round s.rounds) (eqb r.step 0) q.0)
          (λ a. leb-true r.round s.rounds a)
          (λ b. let z = eqb-true r.step 0 b in absurd (omega arith));
      below = ltb-true r.step (round_steps s) q.1;
    }

first_lane : (s : Size) (r : Rack) → sound_first s r ≡ true → leading ≤ r.step → r.first < s.lanes
unfolding sound_first
first_lane s r e h =
    let f : ltb r.first s.lanes ≡ true = rw (le-ltb r.step 2 h) at e in
    ltb-true r.first s.lanes f

-- the first lane is decided
decided : (s : Size) (t : Tables) (r : Rack) → sound_choice s t.cells t.decisions r ≡ true → leading ≤ r.step
    → eqb (decision_at s t.decisions r.round r.first) undecided ≡ false
unfolding sound_choice
decided s t r e h =
    let q = decision_at s t.decisions r.round r.first in
    let f : not (eqb q undecided) && not (is_empty (cell_now s t.cells r offers r.first q)) ≡ true = rw (le-ltb r.step 2 h) at e in
    not-true (eqb q undecided) (and_true (not (eqb q undecided)) (not (is_empty (cell_now s t.cells r offers r.first q))) f).0

-- "decisions are 255 or below n"
source : (s : Size) (t : Tables) → sound_decisions s t.decisions ≡ true → (round lane : ℕ) → 1 ≤ round → round ≤ s.rounds → lane < s.lanes
    → eqb (decision_at s t.decisions round lane) undecided ≡ false → decision_at s t.decisions round lane < s.racks
unfolding sound_decisions decisions_length
source s t e round lane a b l n =
    let i = decision_index s round lane in
    let d = get_or t.decisions i 0 in
    either
    (or_true (eqb d undecided) (ltb d s.racks)
    (below_at (decisions_length s) (λ i. eqb (get_or t.decisions i 0) undecided || ltb (get_or t.decisions i 0) s.racks) e i (decision_fits s round lane a b l)))
    (λ y. absurd (eqb-false d undecided n (eqb-true d undecided y)))
    (λ y. ltb-true d s.racks y)

module _ (s : Size) (t : Tables) (rack : ℕ) (r : Rack) where
  pub tested : fits s t ≡ true → sound_decisions s t.decisions ≡ true → sound_rack s t rack r ≡ true → rack < s.racks → Tested s t rack r
  unfolding sound_rack
  tested f d e h =
      let p = and_true (sound_clock s r) _ e in
      let q = and_true (sound_first s r) _ p.1 in
      let u = and_true (sound_gathered s r) _ q.1 in
      let v = and_true (sound_choice s t.cells t.decisions r) _ u.1 in
      let k = clock s r p.0 in
      record {
        exact = fits_exact s t f;
        rack_there = h;
        round_low = k.low;
        step_below = k.below;
        first_there = first_lane s r q.0;
        source_there =
            λ l. source s t d r.round r.first k.low (k.high l) (first_lane s r q.0 l) (decided s t r v.0 l);
      }

  pub ready : Tested s t rack r → finished s r ≡ false → Ready s t rack r
  unfolding finished
  ready h f = record { tested = h; round_high = ltb-false s.rounds r.round f }

-- none of the tests 4 to 8 refuses
pub record Unrefused (s : Size) (t : Tables) (rack : ℕ) (r : Rack) (lane source : ℕ) : Type 0 where
  pub unfinished : finished s r ≡ false
  pub well_named : misnamed s r lane source ≡ false
  pub is_offered : not_offered s r t.cells lane source ≡ false
  pub not_else : decided_else s r t.decisions lane source ≡ false
  pub has_room : overfull s t rack r ≡ false

zero_left : (b : Bool) (m n : ℕ) → 0 < m → cond b m n ≡ 0 → (b ≡ false) × (n ≡ 0)
zero_left true m n h e = absurd (omega arith)
zero_left false m n h e = (refl, e)

module _ (s : Size) (t : Tables) (rack : ℕ) (r : Rack) (lane source : ℕ) where
  pub unrefused : refusal_of s t rack r lane source ≡ 0 → Unrefused s t rack r lane source
  unfolding refusal_of
  unrefused e =
      let v : ℕ = cond (overfull s t rack r) 8 0 in
      let u : ℕ = cond (decided_else s r t.decisions lane source) 7 v in
      let q : ℕ = cond (not_offered s r t.cells lane source) 6 u in
      let p : ℕ = cond (misnamed s r lane source) 5 q in
      let e4 = zero_left (finished s r) 4 p (omega arith) e in
      let e5 = zero_left (misnamed s r lane source) 5 q (omega arith) e4.1 in
      let e6 = zero_left (not_offered s r t.cells lane source) 6 u (omega arith) e5.1 in
      let e7 = zero_left (decided_else s r t.decisions lane source) 7 v (omega arith) e6.1 in
      let e8 = zero_left (overfull s t rack r) 8 0 (omega arith) e7.1 in
      record { unfinished = e4.0; well_named = e5.0; is_offered = e6.0; not_else = e7.0; has_room = e8.0 }

-- at an answer step a lane and a source that are there
pub named : (s : Size) (r : Rack) (lane source : ℕ) → misnamed s r lane source ≡ false → r.step ≡ 1 → (lane < s.lanes) × (source < s.racks)
unfolding misnamed
named s r lane source e h =
    let f : leb s.lanes lane || leb s.racks source ≡ false = rw (eq-eqb r.step 1 h) at e in
    let p = or_false (leb s.lanes lane) (leb s.racks source) f in
    (leb-false s.lanes lane p.0, leb-false s.racks source p.1)

-- at the last step room for what settling appends
pub settles : (s : Size) (t : Tables) (rack : ℕ) (r : Rack) → overfull s t rack r ≡ false → is_last s r ≡ true
    → too_long s rack t.logs (after_second_read s t.cells rack r) ≡ false
unfolding overfull
settles s t rack r e h = rw h at e
