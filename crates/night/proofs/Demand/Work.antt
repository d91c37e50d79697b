-- Where a rack past its answer is at work: the block, the lane and the place that the card computes from its step are those of the history.
use mathlib.Core.Path.{◌≡◌, refl, sym, ap, ◌∙◌}
use mathlib.Core.Bool.{cond}
use Prim.Native.Nat.{ℕ, ◌≤◌, ◌<◌}
use native.Mathlib.Omega.{arith}
use Rattle.model.specs.declared.Size.{Size}
use Rattle.model.specs.declared.Rack as card
use Rattle.model.specs.Size.{block_steps}
use Rattle.model.specs.Table.{Card, no_lane, rack_at}
use Rattle.model.specs.Shape.{RackShape}
use Rattle.model.specs.Kind.{block_at, place_at, lane_of, lane_at}
use Rattle.model.proofs.Sizes.{Sizes, sizes, fits_size}
use Rattle.protocol.specs.AdoptCommit.{Marked}
use Rattle.protocol.specs.Object.{taken}
use Rattle.protocol.specs.FirstEdition.{first_edition}
use Rattle.protocol.specs.History.{Phase, offering, answering, visiting, Rack, History, past_answer, lane_now}
use Rattle.protocol.specs.Clock.{block_length, step_in}
use Rattle.protocol.proofs.Placed.{Now}
use Rattle.model.proofs.Place.{Stands, stands_block, stands_place}
use Rattle.steady.proofs.Facts.{RackSound}
use Rattle.steady.proofs.Tested.{card_facts}
use Rattle.steady.proofs.Kept.{begun, block_there, lane_there}
use Rattle.night.specs.View.{RackView}
use Rattle.night.proofs.Demand.Tied.{Tied}

-- a block's length, by the size and by its parts
pub block_length_is : (s : Size) → block_steps s ≡ block_length s.racks
unfolding block_steps
block_length_is s = refl

pub record AtWork (s : Size) (h : History Marked) (q : ℕ) (r : card.Rack) (block : ℕ) : Type 0 where
  pub is : (h.racks q).phase ≡ visiting block
  pub first_is : r.first ≡ (h.racks q).first (h.racks q).finished
  pub in_block : block_at s r.step ≡ block
  pub in_lane : lane_at s r ≡ lane_now (h.racks q) block
  pub at_place : place_at s r.step ≡ taken (h.objects (h.racks q).finished (lane_at s r)) q
  pub block_below : block < s.lanes
  pub first_below : (h.racks q).first (h.racks q).finished < s.lanes
  pub lane_below : lane_at s r < s.lanes

module _ (s : Size) (c : Card) (h : History Marked) (tied : Tied s c h) (q : ℕ) (l : q < s.racks) where
  abbrev r : card.Rack
  r = rack_at c.racks q

  abbrev a : Rack
  a = h.racks q

  pub shown : RackView s h q (rack_at c.racks q)
  shown = tied.view.racks_shown q l

  pub small : Sizes c.tables.cells.form.most s
  small = sizes s (fits_size s c.tables tied.steady.fit)

  eight : q < 8
  eight = let n = small.racks_high in omega arith

  pub rack_sound : RackSound s c.tables q (rack_at c.racks q)
  rack_sound = (card_facts s c small.lanes_high tied.steady.ok).used q eight l

  pub rack_shape : RackShape (rack_at c.racks q)
  rack_shape = tied.steady.shape.each q eight

  -- a rack past step 0 has not finished its rounds
  pub round_left : 1 ≤ (rack_at c.racks q).step → (h.racks q).finished < s.rounds
  round_left late = omega (arith, begun s r.round r.step rack_sound.clock late, shown.round)

  work : 2 ≤ r.step → (phase : Phase) → a.phase ≡ phase
      → r.step ≡ step_in s.racks h.objects q a.finished (a.first a.finished) phase
      → r.first ≡ cond (past_answer phase) (a.first a.finished) no_lane
      → Now first_edition s.racks s.lanes h.objects q a.finished (a.first a.finished) phase
      → (block : ℕ) × AtWork s h q r block
  unfolding step_in block_steps
  work late offering is step first now = absurd (omega arith)
  work late answering is step first now = absurd (omega arith)
  work late (visiting block) is step first now =
      let place = taken (h.objects a.finished (lane_now a block)) q in
      let at : Stands s r.step block place = record { counted = omega arith; below = now.0 } in
      let in_block = stands_block s r.step block place at in
      let in_lane : lane_at s r ≡ lane_now a block = λ i. lane_of (first i) (in_block i) in (
        block,
        record {
          is = is;
          first_is = first;
          in_block = in_block;
          in_lane = in_lane;
          at_place =
              stands_place s r.step block place at
              ∙ ap (λ (x : ℕ). taken (h.objects a.finished x) q) (sym in_lane);
          block_below = let b = block_there s c.tables q r rack_sound late in omega arith;
          first_below = let b = rack_sound.first.named late in omega arith;
          lane_below = lane_there s c.tables q r rack_sound late;
        },
      )

  pub at_work : 2 ≤ (rack_at c.racks q).step → (block : ℕ) × AtWork s h q (rack_at c.racks q) block
  at_work late = work late a.phase refl shown.step shown.first (tied.clocked q l).now
