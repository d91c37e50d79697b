-- Where a rack stands in its round, said by its step number and by its phase in the history.
use mathlib.Core.Path.{◌≡◌, refl, sym, ◌∙◌}
use Prim.Native.Nat.{ℕ, ◌+◌, ◌*◌, ◌≤◌, ◌<◌}
use native.Mathlib.Omega.{arith}
use Rattle.model.specs.declared.Size.{Size}
use Rattle.model.specs.declared.Rack as card
use Rattle.model.specs.Size.{block_steps}
use Rattle.model.specs.Kind.{place_at, lane_of, lane_at, block_of}
use Rattle.protocol.specs.AdoptCommit.{Marked}
use Rattle.protocol.specs.Object.{Object, taken}
use Rattle.protocol.specs.FirstEdition.{first_edition}
use Rattle.protocol.specs.History.{Phase, offering, answering, visiting, History}
use Rattle.protocol.specs.Clock.{block_length, step_in}
use Rattle.protocol.proofs.Invariant.{InPhase, Invariant}
use Rattle.protocol.proofs.Placed.{Now, Clocked}
use Rattle.model.proofs.Place.{Stands, stands_block, stands_place}
use Rattle.night.specs.View.{RackView}

-- the phase of a step number
module _ (n : ℕ) (objects : ℕ → ℕ → Object Marked) (q r m : ℕ) where
  at_offer : (phase : Phase) → step_in n objects q r m phase ≡ 0 → phase ≡ offering
  unfolding step_in
  at_offer offering e = refl
  at_offer answering e = absurd (omega arith)
  at_offer (visiting block) e = absurd (omega arith)

  at_answer : (phase : Phase) → step_in n objects q r m phase ≡ 1 → phase ≡ answering
  unfolding step_in
  at_answer offering e = absurd (omega arith)
  at_answer answering e = refl
  at_answer (visiting block) e = absurd (omega arith)

  in_block : (phase : Phase) → 2 ≤ step_in n objects q r m phase → (block : ℕ) × (phase ≡ visiting block)
  unfolding step_in
  in_block offering h = absurd (omega arith)
  in_block answering h = absurd (omega arith)
  in_block (visiting block) h = (block, refl)

-- a rack in one of its blocks
pub record Visiting (s : Size) (h : History Marked) (q : ℕ) (r : card.Rack) : Type 0 where
  pub block : ℕ
  pub is : (h.racks q).phase ≡ visiting block
  pub below : block < s.lanes
  pub later : (lane : ℕ) → block < block_of ((h.racks q).first (h.racks q).finished) lane
      → taken (h.objects (h.racks q).finished lane) q ≡ 0
  pub at : Stands s r.step block (taken (h.objects (h.racks q).finished (lane_of ((h.racks q).first (h.racks q).finished) block)) q)
  pub first_is : r.first ≡ (h.racks q).first (h.racks q).finished

module _ (s : Size) (h : History Marked) (q : ℕ) (r : card.Rack) (v : RackView s h q r) where
  abbrev finished : ℕ
  finished = (h.racks q).finished

  abbrev first : ℕ
  first = (h.racks q).first finished

  pub is_offering : r.step ≡ 0 → (h.racks q).phase ≡ offering
  is_offering e = at_offer s.racks h.objects q finished first (h.racks q).phase (sym v.step ∙ e)

  pub is_answering : r.step ≡ 1 → (h.racks q).phase ≡ answering
  is_answering e = at_answer s.racks h.objects q finished first (h.racks q).phase (sym v.step ∙ e)

  module _ (inv : Invariant first_edition s.racks s.lanes h) (clocked : Clocked first_edition s.racks s.lanes h) (there : q < s.racks) where
    visits : (block : ℕ) → (h.racks q).phase ≡ visiting block
        → InPhase first_edition s.racks s.lanes h.objects q finished first (visiting block)
        → Now first_edition s.racks s.lanes h.objects q finished first (visiting block)
        → Visiting s h q r
    unfolding step_in block_steps
    visits block is i now =
        let e : r.step ≡ 2 + block * block_length s.racks + taken (h.objects finished (lane_of first block)) q = v.step ∙ rw is in
        record {
          block = block;
          is = is;
          below = i.0;
          later = now.1;
          at = record { counted = omega arith; below = now.0 };
          first_is = v.first ∙ rw is;
        }

    pub is_visiting : 2 ≤ r.step → Visiting s h q r
    is_visiting late =
        let b = in_block s.racks h.objects q finished first (h.racks q).phase (rw (← v.step) late) in
        visits b.0 b.1
        (rw b.1 at (inv.rack_invariant q there).in_phase)
        (rw b.1 at (clocked q there).now)

-- the block, the place and the lane at work
module _ (s : Size) (h : History Marked) (q : ℕ) (r : card.Rack) (w : Visiting s h q r) where
  abbrev pub lane : ℕ
  lane = lane_of ((h.racks q).first (h.racks q).finished) w.block

  -- the object at work
  abbrev pub object : Object Marked
  object = h.objects (h.racks q).finished lane

  pub place_is : place_at s r.step ≡ taken object q
  place_is = stands_place s r.step w.block (taken object q) w.at

  pub lane_is : lane_at s r ≡ lane
  lane_is = λ i. lane_of (w.first_is i) (stands_block s r.step w.block (taken object q) w.at i)
