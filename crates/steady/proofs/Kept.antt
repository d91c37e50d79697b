-- What a step starts from and what it has to leave: the tables, the rack that moved, and every other rack.
use mathlib.Core.Path.{◌≡◌, sym, ◌∙◌}
use mathlib.Core.Logic.{◌≢◌}
use mathlib.Core.Bool.{true, false}
use Prim.Native.Nat.{ℕ, ◌≤◌, ◌<◌}
use native.Mathlib.Omega.{arith}
use Rattle.laws.proofs.Cases.{either, lt_or_ge}
use Rattle.model.specs.declared.Size.{Size}
use Rattle.model.specs.declared.Rack.{Rack}
use Rattle.model.specs.Record.{is_empty, cell_at}
use Rattle.model.specs.Table.{Tables, first_cells, second_cells, read_cell, log_length, undecided, decision_at}
use Rattle.model.specs.Shape.{RackShape}
use Rattle.model.specs.Kind.{lane_at, block_at, firsts_read, seconds_read, steps_in}
use Rattle.model.specs.Step.{winning, After}
use Rattle.model.specs.Sound.{sound_cells, sound_decisions, sound_logs}
use Rattle.model.proofs.Table.{Spot}
use Rattle.model.proofs.Place.{stands, block_below}
use Rattle.model.proofs.Order.{lane_below}
use Rattle.steady.proofs.Visits.{no_firsts, no_seconds}
use Rattle.model.proofs.Sizes.{Sizes, Exact}
use Rattle.steady.proofs.Facts.{Clock, Chosen, ReadBack, Written, RackSound}

-- the tables are lent whole and sound
pub record TablesSound (s : Size) (t : Tables) : Type 0 where
  pub exact : Exact s t
  pub cells : sound_cells s t.cells ≡ true
  pub decisions : sound_decisions s t.decisions ≡ true
  pub logs : sound_logs s t.logs ≡ true

-- a rack that has not finished its rounds
pub record Ready (s : Size) (t : Tables) (rack : ℕ) (r : Rack) : Type 0 where
  pub sizes : Sizes t.cells.form.most s
  pub tables : TablesSound s t
  pub there : rack < s.racks
  pub rack_sound : RackSound s t rack r
  pub shape : RackShape r
  pub current : r.round ≤ s.rounds

-- what a step of a rack leaves to the others
pub record Beside (s : Size) (t t' : Tables) (rack : ℕ) : Type 0 where
  pub own : (q : ℕ) → q ≢ rack → (section round lane : ℕ) → Spot s section round lane q
      → read_cell s t'.cells section round lane q ≡ read_cell s t.cells section round lane q
  pub full : (i : ℕ) → is_empty (cell_at t.cells i) ≡ false → is_empty (cell_at t'.cells i) ≡ false
  pub decided : (round lane : ℕ) → 1 ≤ round → round ≤ s.rounds → lane < s.lanes → decision_at s t.decisions round lane ≢ undecided
      → decision_at s t'.decisions round lane ≡ decision_at s t.decisions round lane
  pub lengths : (q : ℕ) → q ≢ rack → q < s.racks → (lane : ℕ) → lane < s.lanes → log_length s t'.logs q lane ≡ log_length s t.logs q lane

-- all that a step has to leave
pub record Kept (s : Size) (t : Tables) (rack : ℕ) (after : After) : Type 0 where
  pub tables : TablesSound s after.tables
  pub beside : Beside s t after.tables rack
  pub moved : RackSound s after.tables rack after.rack
  pub shape : RackShape after.rack

-- one step on, with another first lane or the same
pub shape_on : (r : Rack) (first : ℕ) → RackShape r → RackShape (winning r first)
shape_on r first h = record { firsts = h.firsts; seconds = h.seconds; held = h.held; results = h.results; news = h.news }

module _ (s : Size) where
  -- a rack past step 0 has not finished its rounds
  pub begun : (round step : ℕ) → Clock s round step → 1 ≤ step → round ≤ s.rounds
  begun round step c h = either c.resting (λ (g : round ≤ s.rounds). g) (λ (e : step ≡ 0). absurd (omega arith))

  module _ (t : Tables) (rack : ℕ) (r : Rack) (ok : RackSound s t rack r) where
    pub block_there : 2 ≤ r.step → block_at s r.step < s.lanes
    block_there h = block_below s r.step _ _ (stands s r.step h) ok.clock.step_high

    pub lane_there : 2 ≤ r.step → lane_at s r < s.lanes
    lane_there h = lane_below r.first s.lanes (block_at s r.step) (ok.first.named h) (block_there h)

    -- who has read something is past the answer
    first_begun : 1 ≤ firsts_read s r → 2 ≤ r.step
    first_begun h =
        either (lt_or_ge r.step 2)
        (λ (l : r.step < 2). let e = no_firsts s r (omega arith) in absurd (omega arith))
        (λ (g : 2 ≤ r.step). g)

    second_begun : 1 ≤ seconds_read s r → 2 ≤ r.step
    second_begun h =
        either (lt_or_ge r.step 2)
        (λ (l : r.step < 2). let e = no_seconds s r (omega arith) in absurd (omega arith))
        (λ (g : 2 ≤ r.step). g)

    -- a cell of its present round, in the lane at work
    pub spot_now : (section q : ℕ) → section < 3 → q < s.racks → 2 ≤ r.step → Spot s section r.round (lane_at s r) q
    spot_now section q h g l =
        record {
          section_there = h;
          round_low = ok.clock.round_low;
          round_high = begun r.round r.step ok.clock (omega arith);
          lane_there = lane_there l;
          rack_there = g;
        }

  -- the other racks stay sound
  module _ (t t' : Tables) (rack q : ℕ) (r : Rack) (b : Beside s t t' rack) (other : q ≢ rack) (there : q < s.racks) (ok : RackSound s t q r) where
    chosen_stays : 2 ≤ r.step → Chosen s t' r
    chosen_stays h =
        let c = ok.choice h in
        let e : decision_at s t'.decisions r.round r.first ≡ decision_at s t.decisions r.round r.first =
        b.decided r.round r.first ok.clock.round_low (begun r.round r.step ok.clock (omega arith)) (ok.first.named h) c.decided
        in
        record { decided = λ f. c.decided (sym e ∙ f); offer = rw e (b.full _ c.offer) }

    back_stays : ReadBack s t'.cells q r (firsts_read s r) (seconds_read s r) (lane_at s r)
    back_stays =
        record {
          first_back =
              λ h.
              let l = first_begun t q r ok (omega arith) in
              ok.back.first_back h ∙ sym (b.own q other first_cells r.round (lane_at s r) (spot_now t q r ok first_cells q (omega arith) there l));
          second_back =
              λ h.
              let l = second_begun t q r ok (omega arith) in
              ok.back.second_back h ∙ sym (b.own q other second_cells r.round (lane_at s r) (spot_now t q r ok second_cells q (omega arith) there l));
        }

    written_stays : (lane : ℕ) → lane < s.lanes → Written s t'.cells q r lane (steps_in s r lane)
    written_stays lane h =
        let w = ok.written lane h in
        record { offer = λ g. b.full _ (w.offer g); first = λ g. b.full _ (w.first g); second = λ g. b.full _ (w.second g) }

    pub stays : RackSound s t' q r
    stays =
        record {
          clock = ok.clock;
          first = ok.first;
          gathered = ok.gathered;
          choice = chosen_stays;
          back = back_stays;
          written = written_stays;
          outcome = ok.outcome;
          held = λ lane h. record { held_sound = (ok.held lane h).held_sound; held_place = (ok.held lane h).held_place ∙ sym (b.lengths q other there lane h) };
          unused = ok.unused;
        }
