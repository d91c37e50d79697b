-- The two steps before the first block, after which nothing is gathered and no lane begun.
use mathlib.Core.Path.{◌≡◌}
use mathlib.Core.Logic.{inl, ◌≢◌}
use mathlib.Core.List.{List}
use mathlib.Core.Bool.{false}
use Prim.Native.Nat.{ℕ, ◌+◌, ◌*◌, ◌≤◌, ◌<◌}
use native.Mathlib.Omega.{arith}
use native.Mathlib.Nat.{le_refl}
use Rattle.laws.proofs.Index.{product_le}
use Rattle.model.specs.declared.Size.{Size}
use Rattle.model.specs.declared.Rack.{Rack}
use Rattle.model.specs.Size.{block_steps, round_steps}
use Rattle.model.specs.Record.{is_empty, Cells}
use Rattle.model.specs.Table.{Tables, offers, cell_now}
use Rattle.model.specs.Kind.{steps_in}
use Rattle.model.specs.Step.{winning}
use Rattle.model.proofs.Place.{block_long}
use Rattle.steady.proofs.Visits.{none_taken, no_firsts, no_seconds}
use Rattle.steady.proofs.Facts.{First, Chosen, RackSound}

pub round_long : (s : Size) → 1 ≤ s.lanes → 2 < round_steps s
unfolding round_steps
round_long s h =
    let b = block_long s in
    let p : 1 * block_steps s ≤ s.lanes * block_steps s = product_le h (le_refl (block_steps s)) in
    omega arith

module _ (s : Size) (t : Tables) (rack : ℕ) (r : Rack) (ok : RackSound s t rack r) (early : r.step < 2) (first : ℕ) (cells : Cells) (decisions : List ℕ) where
  abbrev after : Tables
  after = record { cells = cells; logs = t.logs; decisions = decisions }

  abbrev next : Rack
  next = winning r first

  pub leading_sound : 1 ≤ s.lanes → r.round ≤ s.rounds → First s (r.step + 1) first → (2 ≤ r.step + 1 → Chosen s after next)
      → ((lane : ℕ) → lane < s.lanes → is_empty (cell_now s cells r offers lane rack) ≡ false)
      → RackSound s after rack next
  leading_sound some current named choice offer =
      let g = ok.gathered in
      let a = no_firsts s r (omega arith) in
      let b = no_seconds s r (omega arith) in
      let c = round_long s some in
      let d = block_long s in
      record {
        clock = record { round_low = ok.clock.round_low; round_high = ok.clock.round_high; resting = inl current; step_high = omega arith };
        first = named;
        gathered =
            rw (no_firsts s next (omega arith), no_seconds s next (omega arith))
            (record {
              some_first = λ i h l. absurd (omega arith);
              no_first = λ i h l. g.no_first i h (omega arith);
              some_second = λ i h l. absurd (omega arith);
              no_second = λ i h l. g.no_second i h (omega arith);
            });
        choice = choice;
        back =
            rw (no_firsts s next (omega arith), no_seconds s next (omega arith))
            (record { first_back = λ h. absurd (omega arith); second_back = λ h. absurd (omega arith) });
        written =
            λ lane h.
            rw (none_taken s next (omega arith) lane)
            (record { offer = λ l. offer lane h; first = λ l. absurd (omega arith); second = λ l. absurd (omega arith) });
        outcome =
            λ lane h.
            let o = ok.outcome lane h in
            let e = none_taken s r (omega arith) lane in
            let before : steps_in s r lane ≢ block_steps s = omega arith in
            rw (none_taken s next (omega arith) lane)
            (record { done = λ l. absurd (omega arith); no_result = λ l. o.no_result before; no_news = λ l. o.no_news before });
        held = λ lane h. record { held_sound = (ok.held lane h).held_sound; held_place = (ok.held lane h).held_place };
        unused =
            λ lane h l.
            let u = ok.unused lane h l in
            record { no_held = u.no_held; no_result = u.no_result; no_news = u.no_news };
      }
