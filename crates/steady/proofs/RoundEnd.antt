-- The round's last step: every lane is settled, and the rack begins its next round.
use mathlib.Core.Path.{◌≡◌, refl, ap, ◌∙◌}
use mathlib.Core.Logic.{inl, inr}
use mathlib.Core.List.{List}
use mathlib.Core.Bool.{false}
use Prim.Native.Nat.{ℕ, ◌+◌, ◌≤◌, ◌<◌}
use native.Mathlib.Omega.{arith}
use lib.ListN.{get_or, length-replicate, get_or-replicate}
use Rattle.model.specs.declared.Size.{Size}
use Rattle.model.specs.declared.Cell.{Cell}
use Rattle.model.specs.declared.Rack.{Rack}
use Rattle.model.specs.Size.{block_steps, round_steps}
use Rattle.model.specs.Record.{no_value, no_cell}
use Rattle.model.specs.Table.{Tables}
use Rattle.model.specs.Kind.{place_at}
use Rattle.model.specs.Settle.{Settled, settle_lanes, too_long}
use Rattle.model.specs.Step.{ending_round, After}
use Rattle.model.proofs.Place.{block_long}
use Rattle.steady.proofs.Visits.{none_taken, no_firsts, no_seconds}
use Rattle.steady.proofs.Facts.{Gathered, RackSound}
use Rattle.steady.proofs.Kept.{Ready, Kept}
use Rattle.steady.proofs.Leading.{round_long}
use Rattle.steady.proofs.BlockEnd.{none_gathered, ended, ended_shape, all_done}
use Rattle.steady.proofs.Settling.{Settling, settling}

-- the tables and the rack when a rack that has finished its blocks is settled
abbrev pub settled_from : Size → Tables → ℕ → Rack → After
settled_from s t rack r =
    let done = settle_lanes s rack t.logs r s.lanes in
    record { tables = record { cells = t.cells; logs = done.logs; decisions = t.decisions }; rack = ending_round done.rack }

module _ (s : Size) (t : Tables) (rack : ℕ) (r : Rack) (ready : Ready s t rack r) (late : 2 ≤ r.step) (low : s.racks + 2 ≤ place_at s r.step)
    (last_place : place_at s r.step + 1 ≡ block_steps s) (last : r.step + 1 ≡ round_steps s)
    (short : too_long s rack t.logs (ended s t rack r ready late low) ≡ false) where
  abbrev finished : Rack
  finished = ended s t rack r ready late low

  abbrev done : Settled
  done = settle_lanes s rack t.logs finished s.lanes

  abbrev begun : Rack
  begun = ending_round done.rack

  all_settled : Settling s rack ready.there t.logs finished s.lanes done
  all_settled =
      settling s rack ready.there t.logs finished ready.sizes.lanes_high short
      (all_done s t rack r ready late low last_place last)
      ready.tables.exact.logs ready.tables.logs ready.shape.held s.lanes (omega arith)

  none_first : (i : ℕ) → i < 8 → get_or done.rack.firsts i no_cell ≡ no_cell
  none_first i h = ap (λ (l : List Cell). get_or l i no_cell) all_settled.firsts ∙ none_gathered i h

  none_second : (i : ℕ) → i < 8 → get_or done.rack.seconds i no_cell ≡ no_cell
  none_second i h = ap (λ (l : List Cell). get_or l i no_cell) all_settled.seconds ∙ none_gathered i h

  begun_gathered : Gathered s begun 0 0
  begun_gathered =
      record {
        some_first = λ i a b. absurd (omega arith);
        no_first = λ i a b. none_first i a;
        some_second = λ i a b. absurd (omega arith);
        no_second = λ i a b. none_second i a;
      }

  begun_sound : RackSound s (settled_from s t rack finished).tables rack begun
  begun_sound =
      let ok = ready.rack_sound in
      let d = all_settled in
      let e = d.round in
      let current = ready.current in
      let long = round_long s ready.sizes.lanes_low in
      let block = block_long s in
      let four = ready.sizes.lanes_high in
      record {
        clock = record { round_low = omega arith; round_high = omega arith; resting = inr refl; step_high = omega arith };
        first = record { none_yet = λ h. refl; named = λ h. absurd (omega arith) };
        gathered = rw (no_firsts s begun (omega arith), no_seconds s begun (omega arith)) begun_gathered;
        choice = λ h. absurd (omega arith);
        back =
            rw (no_firsts s begun (omega arith), no_seconds s begun (omega arith))
            (record { first_back = λ h. absurd (omega arith); second_back = λ h. absurd (omega arith) });
        written =
            λ lane h.
            rw (none_taken s begun (omega arith) lane)
            (record { offer = λ l. absurd (omega arith); first = λ l. absurd (omega arith); second = λ l. absurd (omega arith) });
        outcome =
            λ lane h.
            rw (none_taken s begun (omega arith) lane)
            (record {
              done = λ l. absurd (omega arith);
              no_result = λ l. get_or-replicate 4 lane no_cell no_cell (omega arith);
              no_news = λ l. get_or-replicate 4 lane no_value no_value (omega arith);
            });
        held = λ lane h. record { held_sound = (d.held lane h).held_sound; held_place = (d.held lane h).held_place };
        unused =
            λ lane h g.
            record {
              no_held = d.left lane g ∙ (ok.unused lane h g).no_held;
              no_result = get_or-replicate 4 lane no_cell no_cell h;
              no_news = get_or-replicate 4 lane no_value no_value h;
            };
      }

  pub round_end_keeps : Kept s t rack (settled_from s t rack finished)
  round_end_keeps =
      let x = ready.tables in
      let d = all_settled in
      let h = ended_shape s t rack r ready late low in
      record {
        tables =
            record {
              exact = record { size = x.exact.size; cells = x.exact.cells; logs = d.sized; decisions = x.exact.decisions };
              cells = x.cells;
              decisions = x.decisions;
              logs = d.logs_sound;
            };
        beside =
            record {
              own = λ q n section round lane p. refl;
              full = λ i f. f;
              decided = λ round lane a b c n. refl;
              lengths = λ q n g lane l. d.others q lane g l (inl n);
            };
        moved = begun_sound;
        shape =
            record {
              firsts = rw d.firsts h.firsts;
              seconds = rw d.seconds h.seconds;
              held = d.held_length;
              results = length-replicate 4 no_cell;
              news = length-replicate 4 no_value;
            };
      }
