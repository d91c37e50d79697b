-- A rack one step on in its block: what every such step keeps, whatever it writes or reads.
use mathlib.Core.Path.{◌≡◌, refl, sym, ap, subst}
use mathlib.Core.Logic.{inl, ◌≢◌}
use mathlib.Core.List.{List}
use mathlib.Core.Bool.{false}
use Prim.Native.Nat.{ℕ, ◌+◌, ◌≤◌, ◌<◌}
use native.Mathlib.Omega.{arith}
use Rattle.laws.proofs.Cases.{either, eq_or_ne}
use Rattle.model.specs.declared.Size.{Size}
use Rattle.model.specs.declared.Value.{Value}
use Rattle.model.specs.declared.Cell.{Cell}
use Rattle.model.specs.declared.Rack.{Rack}
use Rattle.model.specs.Size.{block_steps, round_steps}
use Rattle.model.specs.Record.{no_value, no_cell, is_empty, cell_at, Cells}
use Rattle.model.specs.Table.{Tables, first_cells, second_cells, cell_now, result_at, news_at}
use Rattle.model.specs.Kind.{place_at, lane_of, lane_at, steps_in, firsts_read, seconds_read}
use Rattle.model.proofs.Place.{stands, stands_block, stands_place, stands_on, last_place}
use Rattle.steady.proofs.Visits.{here_before, here_after, else_after}
use Rattle.steady.proofs.Facts.{Gathered, ReadBack, Written, Outcome, RackSound}
use Rattle.steady.proofs.Kept.{block_there}
use Rattle.steady.proofs.Writes.{celled}

-- with what it has gathered and made by then
abbrev pub onward : Rack → List Cell → List Cell → List Cell → List Value → Rack
onward r firsts seconds results news =
    record {
      round = r.round;
      step = r.step + 1;
      first = r.first;
      firsts = firsts;
      seconds = seconds;
      held = r.held;
      results = results;
      news = news;
    }

-- within a block no lane is finished
module _ (s : Size) (t : Tables) (rack : ℕ) (r : Rack) (ok : RackSound s t rack r) (late : 2 ≤ r.step)
    (more : place_at s r.step + 1 < block_steps s) (firsts seconds : List Cell) where
  abbrev reading : Rack
  reading = onward r firsts seconds r.results r.news

  pub outcome_on : (lane : ℕ) → lane < s.lanes → Outcome s reading lane (steps_in s reading lane)
  outcome_on lane h =
      either (eq_or_ne lane (lane_at s r))
      (λ (q : lane ≡ lane_at s r).
      let o = ok.outcome lane h in
      let a = here_before s r lane late q in
      let b = here_after s r reading lane late refl refl q in
      let before : steps_in s r lane ≢ block_steps s = omega arith in
      record { done = λ g. absurd (omega arith); no_result = λ d. o.no_result before; no_news = λ d. o.no_news before })
      (λ (d : lane ≢ lane_at s r). let o = ok.outcome lane h in rw (else_after s r reading lane late refl refl d)
      (record { done = o.done; no_result = o.no_result; no_news = o.no_news }))

module _ (s : Size) (t : Tables) (rack : ℕ) (r : Rack) (ok : RackSound s t rack r) (late : 2 ≤ r.step)
    (firsts seconds results : List Cell) (news : List Value) where
  abbrev next : Rack
  next = onward r firsts seconds results news

  -- within a block the place is one more and the lane is the same
  module _ (more : place_at s r.step + 1 < block_steps s) where
    pub place_on : place_at s (r.step + 1) ≡ place_at s r.step + 1
    place_on = stands_place s (r.step + 1) _ _ (stands_on s r.step _ _ (stands s r.step late) more)

    pub not_last : r.step + 1 < round_steps s
    not_last =
        let h = ok.clock.step_high in
        let at = stands s r.step late in
        either (eq_or_ne (r.step + 1) (round_steps s))
        (λ (e : r.step + 1 ≡ round_steps s).
        let f = last_place s r.step _ _ at e (block_there s t rack r ok late) in
        absurd (omega arith))
        (λ (d : r.step + 1 ≢ round_steps s). omega arith)

    pub lane_on : lane_at s next ≡ lane_at s r
    lane_on = ap (lane_of r.first) (stands_block s (r.step + 1) _ _ (stands_on s r.step _ _ (stands s r.step late) more))

  module _ (cells : Cells) (full : (i : ℕ) → is_empty (cell_at t.cells i) ≡ false → is_empty (cell_at cells i) ≡ false) where
    -- the first step of a block writes the first cell, the step after the first reads the second cell
    module _ (first-now : place_at s r.step ≡ 0 → is_empty (cell_now s cells r first_cells (lane_at s r) rack) ≡ false)
        (second-now : place_at s r.step ≡ s.racks + 1 → is_empty (cell_now s cells r second_cells (lane_at s r) rack) ≡ false) where
      written_here : (lane : ℕ) → lane < s.lanes → lane ≡ lane_at s r → Written s cells rack next lane (steps_in s next lane)
      written_here lane h q =
          let w = ok.written lane h in
          let a = here_before s r lane late q in
          let b = here_after s r next lane late refl refl q in
          record {
            offer = λ g. full _ (w.offer (omega arith));
            first =
                λ g.
                either (eq_or_ne (place_at s r.step) 0)
                (λ (e : place_at s r.step ≡ 0). subst (λ (l : ℕ). is_empty (cell_now s cells r first_cells l rack) ≡ false) (sym q) (first-now e))
                (λ (d : place_at s r.step ≢ 0). full _ (w.first (omega arith)));
            second =
                λ g.
                either (eq_or_ne (place_at s r.step) (s.racks + 1))
                (λ (e : place_at s r.step ≡ s.racks + 1). subst (λ (l : ℕ). is_empty (cell_now s cells r second_cells l rack) ≡ false) (sym q) (second-now e))
                (λ (d : place_at s r.step ≢ s.racks + 1). full _ (w.second (omega arith)));
          }

      written_on : (lane : ℕ) → lane < s.lanes → Written s cells rack next lane (steps_in s next lane)
      written_on lane h =
          either (eq_or_ne lane (lane_at s r))
          (written_here lane h)
          (λ (d : lane ≢ lane_at s r).
          let w = ok.written lane h in
          rw (else_after s r next lane late refl refl d)
          (record { offer = λ g. full _ (w.offer (omega arith)); first = λ g. full _ (w.first g); second = λ g. full _ (w.second g) }))

      pub onward_sound : r.round ≤ s.rounds → r.step + 1 < round_steps s
          → Gathered s next (firsts_read s next) (seconds_read s next)
          → ReadBack s cells rack next (firsts_read s next) (seconds_read s next) (lane_at s next)
          → ((lane : ℕ) → lane < s.lanes → Outcome s next lane (steps_in s next lane))
          → ((lane : ℕ) → lane < 4 → s.lanes ≤ lane → (result_at next lane ≡ no_cell) × (news_at next lane ≡ no_value))
          → RackSound s (celled t cells) rack next
      onward_sound current high gathered back outcome unused =
          record {
            clock = record { round_low = ok.clock.round_low; round_high = ok.clock.round_high; resting = inl current; step_high = high };
            first = record { none_yet = λ h. absurd (omega arith); named = λ h. ok.first.named late };
            gathered = gathered;
            choice = λ h. record { decided = (ok.choice late).decided; offer = full _ (ok.choice late).offer };
            back = back;
            written = written_on;
            outcome = outcome;
            held = λ lane h. record { held_sound = (ok.held lane h).held_sound; held_place = (ok.held lane h).held_place };
            unused =
                λ lane h g.
                let u = unused lane h g in
                record { no_held = (ok.unused lane h g).no_held; no_result = u.0; no_news = u.1 };
          }
