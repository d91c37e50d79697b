-- The two steps of a block that write a cell of the lane at work.
use mathlib.Core.Path.{◌≡◌, refl, sym, ◌∙◌, subst}
use mathlib.Core.Logic.{◌≢◌}
use mathlib.Core.Bool.{true, false}
use Prim.Native.Nat.{ℕ, ◌+◌, ◌≤◌, ◌<◌}
use native.Mathlib.Omega.{arith}
use borrow.Author.Tests.{eq-eqb, ne_eqb}
use Rattle.laws.proofs.Cases.{either, eq_or_ne}
use Rattle.model.specs.declared.Size.{Size}
use Rattle.model.specs.declared.Cell.{Cell}
use Rattle.model.specs.declared.Rack.{Rack}
use Rattle.model.specs.declared.Kind.TheVariants.{FirstWrite, SecondWrite}
use Rattle.model.specs.Size.{block_steps}
use Rattle.model.specs.Record.{is_empty, offered, Cells}
use Rattle.model.specs.Table.{Tables, offers, first_cells, second_cells, write_cell, cell_now, decision_at}
use Rattle.model.specs.Kind.{place_at, lane_at, firsts_read, seconds_read}
use Rattle.model.specs.Block.{second_cell}
use Rattle.model.specs.Step.{advanced, own, proposal, first_written, second_written, step_by}
use Rattle.model.specs.Sound.{mark_fits, sound_value, sound_cell}
use Rattle.model.proofs.Table.{Spot}
use Rattle.model.proofs.Place.{block_long}
use Rattle.steady.proofs.Facts.{Gathered, ReadBack, RackSound}
use Rattle.steady.proofs.Cells.{full_value, sound_cell_is, cell_sound, cell_written}
use Rattle.steady.proofs.Decisions.{decided_source}
use Rattle.steady.proofs.Values.{second_sound, second_full}
use Rattle.steady.proofs.Kept.{Ready, Kept, shape_on, lane_there, spot_now}
use Rattle.steady.proofs.Own.{own_sound, firsts_carry}
use Rattle.steady.proofs.Writes.{celled, other_section, write_tables, write_full, write_beside}
use Rattle.steady.proofs.Onward.{outcome_on, place_on, not_last, lane_on, onward_sound}

module _ (s : Size) (t : Tables) (rack : ℕ) (r : Rack) (ready : Ready s t rack r) (late : 2 ≤ r.step) where
  abbrev ok : RackSound s t rack r
  ok = ready.rack_sound

  -- a write of either section, before anything of that section is read
  module _ (section : ℕ) (c : Cell) (inside : section < 3) (fine : sound_cell s section c ≡ true) (full : is_empty c ≡ false)
      (more : place_at s r.step + 1 < block_steps s)
      (firsts_same : firsts_read s (advanced r) ≡ firsts_read s r) (seconds-same : seconds_read s (advanced r) ≡ seconds_read s r)
      (first-unread : section ≡ first_cells → firsts_read s r ≡ 0) (second-unread : section ≡ second_cells → seconds_read s r ≡ 0)
      (first-due : place_at s r.step ≡ 0 → section ≡ first_cells) (second-due : place_at s r.step ≡ s.racks + 1 → section ≡ second_cells) where
    abbrev new : Cells
    new = write_cell s t.cells section r.round (lane_at s r) rack c

    spot : Spot s section r.round (lane_at s r) rack
    spot = spot_now s t rack r ok section rack inside ready.there late

    now : (section' : ℕ) → section ≡ section' → is_empty (cell_now s new r section' (lane_at s r) rack) ≡ false
    now section' e =
        subst (λ (x : ℕ). is_empty (cell_now s new r x (lane_at s r) rack) ≡ false) e
        (rw (cell_written s t.cells section r.round (lane_at s r) rack c ready.tables.exact.cells spot) full)

    -- what was read back is of the other section
    unread : (section' n : ℕ) → section' < 3 → (section ≡ section' → n ≡ 0) → rack < n
        → cell_now s new r section' (lane_at s r) rack ≡ cell_now s t.cells r section' (lane_at s r) rack
    unread section' n h none g =
        other_section s t.cells section r.round (lane_at s r) rack c spot section'
        (λ e. let z = none (sym e) in omega arith)
        r.round (lane_at s r) rack (spot_now s t rack r ok section' rack h ready.there late)

    back_on : ReadBack s new rack (advanced r) (firsts_read s (advanced r)) (seconds_read s (advanced r)) (lane_at s (advanced r))
    back_on =
        rw (firsts_same, seconds-same, lane_on s t rack r ok late r.firsts r.seconds r.results r.news more)
        (record {
          first_back = λ h. ok.back.first_back h ∙ sym (unread first_cells (firsts_read s r) (omega arith) first-unread h);
          second_back = λ h. ok.back.second_back h ∙ sym (unread second_cells (seconds_read s r) (omega arith) second-unread h);
        })

    gathered_on : Gathered s (advanced r) (firsts_read s (advanced r)) (seconds_read s (advanced r))
    gathered_on =
        let g = ok.gathered in
        rw (firsts_same, seconds-same)
        (record { some_first = g.some_first; no_first = g.no_first; some_second = g.some_second; no_second = g.no_second })

    write_keeps : Kept s t rack (record { tables = celled t new; rack = advanced r })
    write_keeps =
        record {
          tables = write_tables s t ready.tables section r.round (lane_at s r) rack c spot fine;
          beside = write_beside s t ready.tables section r.round (lane_at s r) rack c spot full;
          moved =
              onward_sound s t rack r ok late r.firsts r.seconds r.results r.news new
              (write_full s t ready.tables section r.round (lane_at s r) rack c spot full)
              (λ e. now first_cells (first-due e))
              (λ e. now second_cells (second-due e))
              ready.current
              (not_last s t rack r ok late r.firsts r.seconds r.results r.news more)
              gathered_on
              back_on
              (outcome_on s t rack r ok late more r.firsts r.seconds)
              (λ lane h g. ((ok.unused lane h g).no_result, (ok.unused lane h g).no_news));
          shape = shape_on r r.first ready.shape;
        }

  -- "The value offered by q at m is what this rack proposes in m"; in each other lane it is the held value
  proposal_sound : sound_value s (proposal s t.cells rack r t.decisions) ≡ true
  unfolding proposal
  proposal_sound =
      either (eq_or_ne (lane_at s r) r.first)
      (λ (e : lane_at s r ≡ r.first). rw (eq-eqb (lane_at s r) r.first e)
      (subst (λ (lane : ℕ). sound_value s (cell_now s t.cells r offers lane (decision_at s t.decisions r.round lane)).value ≡ true) (sym e) chosen))
      (λ (d : lane_at s r ≢ r.first). rw (ne_eqb (lane_at s r) r.first d) (ok.held (lane_at s r) (lane_there s t rack r ok late)).held_sound)
    where
      chosen : sound_value s (cell_now s t.cells r offers r.first (decision_at s t.decisions r.round r.first)).value ≡ true
      chosen =
          let source = decision_at s t.decisions r.round r.first in
          let c = ok.choice late in
          let low = ok.clock.round_low in
          let named = ok.first.named late in
          let p : Spot s offers r.round r.first source =
          record {
            section_there = omega arith;
            round_low = low;
            round_high = ready.current;
            lane_there = named;
            rack_there = decided_source s t.decisions ready.tables.decisions r.round r.first low ready.current named c.decided;
          }
          in
          full_value s offers _ (cell_sound s t.cells offers r.round r.first source p ready.tables.cells) c.offer

  pub first_write_keeps : (m q : ℕ) → place_at s r.step ≡ 0 → Kept s t rack (step_by s t rack r FirstWrite m q)
  unfolding step_by first_written firsts_read seconds_read mark_fits
  first_write_keeps m q e =
      let long = block_long s in
      let more : place_at s r.step + 1 < block_steps s = omega arith in
      let p = place_on s t rack r ok late r.firsts r.seconds r.results r.news more in
      write_keeps first_cells (offered (proposal s t.cells rack r t.decisions)) (omega arith)
      (sound_cell_is s first_cells _ refl refl proposal_sound)
      refl
      more
      (omega arith)
      (omega arith)
      (λ g. omega arith)
      (λ g. omega arith)
      (λ g. refl)
      (λ g. absurd (omega arith))

  pub second_write_keeps : (m q : ℕ) → place_at s r.step ≡ s.racks + 1 → Kept s t rack (step_by s t rack r SecondWrite m q)
  unfolding step_by second_written firsts_read seconds_read block_steps
  second_write_keeps m q e =
      let low = ready.sizes.racks_low in
      let more : place_at s r.step + 1 < block_steps s = omega arith in
      let p = place_on s t rack r ok late r.firsts r.seconds r.results r.news more in
      write_keeps second_cells (second_cell r.firsts (own s t.cells rack r) s.racks) (omega arith)
      (second_sound s r.firsts (own s t.cells rack r) s.racks
      (own_sound s t rack r ready late (omega arith))
      (firsts_carry s t rack r ready late (omega arith)))
      (second_full s r.firsts (own s t.cells rack r) s.racks)
      more
      (omega arith)
      (omega arith)
      (λ g. absurd (omega arith))
      (λ g. omega arith)
      (λ g. absurd (omega arith))
      (λ g. refl)
