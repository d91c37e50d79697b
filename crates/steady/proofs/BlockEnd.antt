-- The last step of a block: the lane at work gets its result and news, and what was gathered is emptied.
use mathlib.Core.Path.{◌≡◌, refl, ap, ◌∙◌}
use mathlib.Core.Logic.{◌≢◌}
use Prim.Native.Nat.{ℕ, ◌+◌, ◌≤◌, ◌<◌}
use native.Mathlib.Omega.{arith}
use lib.ListN.{get_or, replicate, length-set, length-replicate, get_or-replicate}
use lib.Seq.{get_or-set_same, get_or-set_other}
use Rattle.laws.proofs.Cases.{either, eq_or_ne}
use Rattle.model.specs.declared.Size.{Size}
use Rattle.model.specs.declared.Value.{Value}
use Rattle.model.specs.declared.Cell.{Cell}
use Rattle.model.specs.declared.Rack.{Rack}
use Rattle.model.specs.Size.{block_steps, round_steps}
use Rattle.model.specs.Record.{no_value, no_cell}
use Rattle.model.specs.Table.{Tables, second_cells, cell_now, result_at, news_at}
use Rattle.model.specs.Shape.{RackShape}
use Rattle.model.specs.Kind.{place_at, block_at, lane_at, steps_in, firsts_read, seconds_read}
use Rattle.model.specs.Block.{result_of, news}
use Rattle.model.specs.Step.{own, ending_block}
use Rattle.model.proofs.Place.{stands, stands_over, stands_place, last_block}
use Rattle.model.proofs.Order.{block_below}
use Rattle.steady.proofs.Visits.{all_taken, here_after, else_after}
use Rattle.steady.proofs.Facts.{Done, Outcome, RackSound}
use Rattle.steady.proofs.Cells.{full_value}
use Rattle.steady.proofs.Values.{AllCarry, result_sound, result_full, news_sound}
use Rattle.steady.proofs.Own.{own_sound, second_value_is, firsts_carry, own_back}
use Rattle.steady.proofs.Kept.{Ready, Kept, block_there, lane_there}
use Rattle.steady.proofs.Writes.{beside_none}
use Rattle.steady.proofs.Onward.{onward_sound}
use Rattle.steady.proofs.SecondRead.{q, new, some_seconds}

-- nothing is gathered
pub none_gathered : (i : ℕ) → i < 8 → get_or (replicate 8 no_cell) i no_cell ≡ no_cell
none_gathered i h = get_or-replicate 8 i no_cell no_cell h

module _ (s : Size) (t : Tables) (rack : ℕ) (r : Rack) (ready : Ready s t rack r) (late : 2 ≤ r.step) (low : s.racks + 2 ≤ place_at s r.step) where
  abbrev ok : RackSound s t rack r
  ok = ready.rack_sound

  abbrev gathered : Rack
  gathered = new s t rack r ready late low

  abbrev outcome : Cell
  outcome = result_of gathered.seconds (own s t.cells rack r) (cell_now s t.cells r second_cells (lane_at s r) rack).value s.racks

  abbrev newest : Value
  newest = news r.firsts gathered.seconds s.racks

  abbrev pub ended : Rack
  ended = ending_block gathered (lane_at s r) outcome newest

  pub ended_shape : RackShape ended
  ended_shape =
      let h = ready.shape in
      record {
        firsts = length-replicate 8 no_cell;
        seconds = length-replicate 8 no_cell;
        held = h.held;
        results = length-set r.results (lane_at s r) outcome ∙ h.results;
        news = length-set r.news (lane_at s r) newest ∙ h.news;
      }

  -- the lanes that are not there get nothing
  pub ended_unused : (lane : ℕ) → lane < 4 → s.lanes ≤ lane → (result_at ended lane ≡ no_cell) × (news_at ended lane ≡ no_value)
  ended_unused lane h g =
      let l = lane_there s t rack r ok late in
      let other : lane ≢ lane_at s r = omega arith in
      let u = ok.unused lane h g in (
        get_or-set_other r.results (lane_at s r) lane outcome no_cell other ∙ u.no_result,
        get_or-set_other r.news (lane_at s r) lane newest no_value other ∙ u.no_news,
      )

  module _ (last : place_at s r.step + 1 ≡ block_steps s) where
    all_seconds : q s t rack r ready late low + 1 ≡ s.racks
    unfolding block_steps
    all_seconds = let n = ready.sizes.racks_low in omega arith

    seconds_carry : AllCarry s gathered.seconds s.racks
    seconds_carry i h =
        let e = all_seconds in
        full_value s second_cells (get_or gathered.seconds i no_cell) (some_seconds s t rack r ready late low i (omega arith))

    done_here : Done s outcome newest
    done_here =
        let own-fine = own_sound s t rack r ready late (omega arith) in
        record {
          full = result_full s gathered.seconds (own s t.cells rack r) (cell_now s t.cells r second_cells (lane_at s r) rack).value s.racks;
          result_sound =
              result_sound s gathered.seconds (own s t.cells rack r) (cell_now s t.cells r second_cells (lane_at s r) rack).value s.racks
              own-fine (second_value_is s t rack r ready late low) seconds_carry;
          news_sound =
              news_sound s r.firsts gathered.seconds s.racks rack ready.there
              (own_back s t rack r ready late (omega arith))
              (firsts_carry s t rack r ready late (omega arith))
              seconds_carry;
        }

    -- each lane finished so far has its outcome
    pub ended_outcome : (lane : ℕ) → lane < s.lanes → Outcome s ended lane (steps_in s ended lane)
    ended_outcome lane h =
        let o = ok.outcome lane h in
        let four = ready.sizes.lanes_high in
        either (eq_or_ne lane (lane_at s r))
        (λ (e : lane ≡ lane_at s r).
        let b = here_after s r ended lane late refl refl e in
        let c : result_at ended lane ≡ outcome =
        ap (λ (l : ℕ). result_at ended l) e ∙ get_or-set_same r.results (lane_at s r) outcome no_cell (let f = ready.shape.results in omega arith)
        in
        let v : news_at ended lane ≡ newest =
        ap (λ (l : ℕ). news_at ended l) e ∙ get_or-set_same r.news (lane_at s r) newest no_value (let f = ready.shape.news in omega arith)
        in
        record {
          done = λ g. rw (c, v) done_here;
          no_result = λ d. absurd (d (omega arith));
          no_news = λ d. absurd (d (omega arith));
        })
        (λ (d : lane ≢ lane_at s r).
        let c : result_at ended lane ≡ result_at r lane = get_or-set_other r.results (lane_at s r) lane outcome no_cell d in
        let v : news_at ended lane ≡ news_at r lane = get_or-set_other r.news (lane_at s r) lane newest no_value d in
        rw (else_after s r ended lane late refl refl d)
        (record { done = λ g. rw (c, v) (o.done g); no_result = λ g. c ∙ o.no_result g; no_news = λ g. v ∙ o.no_news g }))

    place_over : place_at s (r.step + 1) ≡ 0
    place_over = stands_place s (r.step + 1) _ _ (stands_over s r.step _ _ (stands s r.step late) last)

    firsts_over : firsts_read s ended ≡ 0
    unfolding firsts_read
    firsts_over = let p = place_over in omega arith

    seconds_over : seconds_read s ended ≡ 0
    unfolding seconds_read
    seconds_over = let p = place_over in omega arith

    pub block_end_keeps : r.step + 1 < round_steps s → Kept s t rack (record { tables = t; rack = ended })
    block_end_keeps more =
        record {
          tables = ready.tables;
          beside = beside_none s t rack;
          moved =
              onward_sound s t rack r ok late ended.firsts ended.seconds ended.results ended.news t.cells (λ i h. h)
              (λ e. absurd (omega arith))
              (λ e. absurd (omega arith))
              ready.current
              more
              (rw (firsts_over, seconds_over)
              (record {
                some_first = λ i a b. absurd (omega arith);
                no_first = λ i a b. none_gathered i a;
                some_second = λ i a b. absurd (omega arith);
                no_second = λ i a b. none_gathered i a;
              }))
              (rw (firsts_over, seconds_over) (record { first_back = λ h. absurd (omega arith); second_back = λ h. absurd (omega arith) }))
              ended_outcome
              ended_unused;
          shape = ended_shape;
        }

    -- with the round's last block every lane is finished
    pub all_done : r.step + 1 ≡ round_steps s → (lane : ℕ) → lane < s.lanes → Done s (result_at ended lane) (news_at ended lane)
    all_done e lane h =
        let at = stands s r.step late in
        let f = last_block s r.step _ _ at e (block_there s t rack r ok late) in
        let b = block_below r.first s.lanes lane (ok.first.named late) h in
        (ended_outcome lane h).done
        (all_taken s ended lane (block_at s r.step + 1) 0 (stands_over s r.step _ _ at last) (omega arith))
