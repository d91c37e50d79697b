-- The round's last step: every lane is settled as in the history, and the rack shows its next round.
use mathlib.Core.Path.{◌≡◌, refl, sym, ap, ◌∙◌}
use mathlib.Core.Logic.{◌≢◌}
use mathlib.Core.Bool.{true, false, cond}
use mathlib.Core.List.{List}
use Prim.Native.Nat.{ℕ, suc, ◌+◌, ◌≤◌, ◌<◌}
use native.Mathlib.Omega.{arith}
use borrow.Author.Tests.{eq-eqb, ne_eqb, le-ltb}
use lib.ListN.{get_or, get_or-replicate}
use Rattle.laws.proofs.Cases.{either, lt_or_ge, eq_or_ne}
use Rattle.model.specs.declared.Size.{Size}
use Rattle.model.specs.declared.Value.{Value}
use Rattle.model.specs.declared.Cell.{Cell}
use Rattle.model.specs.declared.Rack as card
use Rattle.model.specs.declared.Kind.TheVariants.{SecondRead}
use Rattle.model.specs.Size.{block_steps, round_steps}
use Rattle.model.specs.Record.{no_value, no_cell, offered}
use Rattle.model.specs.Table.{Tables, offers, read_cell, result_at, news_at}
use Rattle.model.specs.Kind.{place_at, lane_of, lane_at, block_of}
use Rattle.model.specs.Settle.{Settled, settle_lanes, too_long}
use Rattle.model.specs.Step as model
use Rattle.model.specs.Step.{is_last, second_read_taken, ending_round, step_by}
use Rattle.model.proofs.Place.{last_block}
use Rattle.steady.proofs.Kept.{Ready}
use Rattle.steady.proofs.BlockEnd.{none_gathered, ended, all_done}
use Rattle.steady.proofs.Settling.{Settling, settling}
use Rattle.protocol.specs.AdoptCommit.{Marked}
use Rattle.protocol.specs.Object.{Object, taken}
use Rattle.protocol.specs.Edition.{result, news_of}
use Rattle.protocol.specs.FirstEdition.{first_edition}
use Rattle.protocol.specs.Log.{Log}
use Rattle.protocol.specs.Settle.{settled_log, next_held}
use Rattle.protocol.specs.History as protocol
use Rattle.protocol.specs.History.{visiting, Rack, History, Turn, has_offered, end_block, settled}
use Rattle.protocol.specs.Clock.{step_in}
use Rattle.protocol.proofs.Put.{put_same, put_other, put_at_round}
use Rattle.model.proofs.Order.{lane_of_block, block_below}
use Rattle.protocol.proofs.Steps.{done_taken}
use Rattle.protocol.proofs.Invariant.{past_before, InPhase, Invariant}
use Rattle.protocol.proofs.Placed.{Clocked}
use Rattle.night.specs.View.{marked_cell, RackView}
use Rattle.night.proofs.View.Past.{ahead, not_yet, by_now}
use Rattle.night.proofs.View.Standing.{Visiting}
use Rattle.night.proofs.View.Moves.{r₀, c₀, moved, ends}
use Rattle.night.proofs.View.Within.{here_new, else_old}
use Rattle.night.proofs.View.Tables.{TablesView, AfterView}
use Rattle.night.proofs.View.RackChange.{racked, all_racks, rack_changed, tables_changed}
use Rattle.night.proofs.View.Gathered.{no_firsts, no_seconds}
use Rattle.night.proofs.View.Here.{round_there, first_there}
use Rattle.night.proofs.View.Outcome.{all_taken, results_ended, news_ended}
use Rattle.night.proofs.View.BlockEnd.{read_ends, read_tables}
use Rattle.night.proofs.View.Settling.{SettlingView, settling_view}

module _ (s : Size) (t : Tables) (h : History Marked) (move : Turn) (r : card.Rack) (ready : Ready s t move.rack r)
    (inv : Invariant first_edition s.racks s.lanes h) (clocked : Clocked first_edition s.racks s.lanes h)
    (tables : TablesView s t h) (v : RackView s h move.rack r)
    (w : Visiting s h move.rack r) (late : 2 ≤ r.step) (low : s.racks + 2 ≤ place_at s r.step)
    (last : place_at s r.step + 1 ≡ block_steps s) (over : r.step + 1 ≡ round_steps s) where
  abbrev q : ℕ
  q = move.rack

  abbrev fin : ℕ
  fin = r₀ s h move r inv ready.there w

  abbrev first : ℕ
  first = (h.racks q).first fin

  abbrev c : ℕ
  c = c₀ s h move r inv ready.there w

  abbrev h₁ : History Marked
  h₁ = moved s h move r inv ready.there w

  abbrev end : card.Rack
  end = ended s t move.rack r ready late low

  last_one : w.block + 1 ≡ s.lanes
  last_one = last_block s r.step w.block _ w.at over w.below

  -- every lane is finished
  lane_done : (lane : ℕ) → lane < s.lanes → taken (h₁.objects fin lane) q ≡ block_steps s
  unfolding block_steps
  lane_done lane l =
      either (eq_or_ne lane c)
      (λ (e : lane ≡ c).
      rw (e, here_new s h move r inv ready.there w v) (all_taken s t h move r ready inv tables v w late low last))
      (λ (d : lane ≢ c).
      let phase : InPhase first_edition s.racks s.lanes h.objects q fin first (visiting w.block) =
      rw w.is at (inv.rack_invariant q ready.there).in_phase
      in
      let small = block_below first s.lanes lane (first_there s t h q r ready inv tables v w) l in
      let one = last_one in
      let other : block_of first lane ≢ w.block = λ e. d (sym (lane_of_block first lane) ∙ ap (lane_of first) e) in
      rw (else_old s h move r inv ready.there w v lane d)
      (done_taken first_edition.make s.racks (h.objects fin lane) (inv.consistent fin lane) q ready.there (phase.1 lane (omega (arith, other)))))

  result_shown : (lane : ℕ) → lane < s.lanes → result_at end lane ≡ marked_cell (result first_edition (h₁.objects fin lane) q)
  result_shown lane l =
      rw (eq-eqb (taken (h₁.objects fin lane) q) (block_steps s) (lane_done lane l)) at (results_ended s t h move r ready inv tables v w late low last lane l)

  news_shown : (lane : ℕ) → lane < s.lanes → news_at end lane ≡ news_of first_edition (h₁.objects fin lane) q
  news_shown lane l =
      rw (eq-eqb (taken (h₁.objects fin lane) q) (block_steps s) (lane_done lane l)) at (news_ended s t h move r ready inv tables v w late low last lane l)

  module _ (short : too_long s move.rack t.logs (ended s t move.rack r ready late low) ≡ false) where
    abbrev done : Settled
    done = settle_lanes s q t.logs end s.lanes

    abbrev begun : card.Rack
    begun = ending_round done.rack

    abbrev S : Rack
    S = settled first_edition h₁ q (h.racks q)

    abbrev log_next : ℕ → Log
    log_next lane =
        settled_log ((h.racks q).log fin lane) (result first_edition (h₁.objects fin lane) q) (news_of first_edition (h₁.objects fin lane) q)

    all_settled : Settling s q ready.there t.logs end s.lanes done
    all_settled =
        settling s q ready.there t.logs end ready.sizes.lanes_high short (all_done s t q r ready late low last over)
        ready.tables.exact.logs ready.tables.logs ready.shape.held s.lanes (omega arith)

    settled_view : SettlingView s q ready.there t.logs end ((h.racks q).log fin) (λ lane. result first_edition (h₁.objects fin lane) q)
        (λ lane. news_of first_edition (h₁.objects fin lane) q) result_shown news_shown s.lanes done
    settled_view =
        settling_view s q ready.there t.logs end ((h.racks q).log fin) (λ lane. result first_edition (h₁.objects fin lane) q)
        (λ lane. news_of first_edition (h₁.objects fin lane) q) result_shown news_shown
        ready.sizes.lanes_high short (all_done s t q r ready late low last over)
        ready.tables.exact.logs ready.tables.logs ready.shape.held
        (λ lane l. tables.logs_shown q lane ready.there l)
        s.lanes (omega arith)

    log_here : (lane : ℕ) → S.log (suc fin) lane ≡ log_next lane
    log_here lane = ap (λ (f : ℕ → Log). f lane) (put_same (h.racks q).log (suc fin) log_next)

    held_here : (lane : ℕ) → S.held (suc fin) lane ≡ next_held q (log_next lane) (result first_edition (h₁.objects fin lane) q)
    held_here lane =
        ap (λ (f : ℕ → Value). f lane)
        (put_same (h.racks q).held (suc fin) (λ lane. next_held q (log_next lane) (result first_edition (h₁.objects fin lane) q)))

    held_before : (round lane : ℕ) → round ≤ fin → S.held round lane ≡ (h.racks q).held round lane
    held_before round lane b =
        ap (λ (f : ℕ → Value). f lane) (put_other (h.racks q).held (suc fin) _ round (λ e. omega arith))

    offers_here : (round lane : ℕ) → round < s.rounds → lane < s.lanes
        → read_cell s t.cells offers (suc round) lane q ≡ cond (has_offered S round) (offered (S.held round lane)) no_cell
    offers_here round lane b l =
        let old = rw w.is at (tables.offers_shown round lane q b l ready.there) in
        either (lt_or_ge fin round)
        (λ (g : fin < round). rw (not_yet (suc fin) round g) (rw (ahead fin round true g) at old))
        (λ (g : round ≤ fin).
        rw (past_before (suc fin) round false (omega arith), held_before round lane g) (rw (by_now fin round g) at old))

    abbrev after : Tables
    after = record { cells = t.cells; logs = done.logs; decisions = t.decisions }

    round_tables : TablesView s after (racked h₁ q S h.decided)
    round_tables =
        let d = read_tables s t h move r ready inv tables v w late low last in
        tables_changed s h₁ q S h.decided after
        offers_here
        (λ round lane p n b l u. d.offers_shown round lane p b l u)
        (λ lane l. rw (log_here lane) (settled_view.done lane l))
        (λ p lane n u l. settled_view.others p lane _ n u l (d.logs_shown p lane u l))
        d.firsts_shown d.seconds_shown d.decisions_shown

    -- nothing is begun in the next round
    same_object : (lane : ℕ) → h₁.objects (suc fin) lane ≡ h.objects (suc fin) lane
    same_object lane = put_at_round h.objects fin c _ (suc fin) lane (λ e. omega arith)

    not_begun : (lane : ℕ) → taken (h.objects (suc fin) lane) q ≡ 0
    not_begun lane = (clocked q ready.there).later (suc fin) lane (omega arith)

    unfinished : (lane : ℕ) → taken (h₁.objects (suc fin) lane) q ≢ block_steps s
    unfolding block_steps
    unfinished lane e = let f = ap (λ (o : Object Marked). taken o q) (same_object lane) in let g = not_begun lane in omega arith

    round_view : RackView s (all_racks h₁ S) q begun
    unfolding step_in
    round_view =
        let d = all_settled in
        let rounds = d.round in
        let now = v.round in
        let there = round_there s t h q r ready inv tables v w in
        let four = ready.sizes.lanes_high in
        let c' = lane_at s begun in
        let None-first = no_firsts s.racks (h.objects (suc fin) c') (inv.consistent (suc fin) c') q (not_begun c') in
        let none_second = no_seconds s.racks (h.objects (suc fin) c') (inv.consistent (suc fin) c') q (not_begun c') in
        record {
          in_range = there;
          round = omega arith;
          step = refl;
          first = refl;
          firsts =
              λ i l.
              rw (same_object c', None-first i)
              (ap (λ (x : List Cell). get_or x i no_cell) d.firsts ∙ none_gathered i l);
          seconds =
              λ i l.
              rw (same_object c', none_second i)
              (ap (λ (x : List Cell). get_or x i no_cell) d.seconds ∙ none_gathered i l);
          held = λ lane l. settled_view.held lane l ∙ sym (held_here lane);
          results =
              λ lane l.
              rw (ne_eqb (taken (h₁.objects (suc fin) lane) q) (block_steps s) (unfinished lane))
              (get_or-replicate 4 lane no_cell no_cell (omega arith));
          news =
              λ lane l.
              rw (ne_eqb (taken (h₁.objects (suc fin) lane) q) (block_steps s) (unfinished lane))
              (get_or-replicate 4 lane no_value no_value (omega arith));
        }

    pub round_end_view : (m p : ℕ) → AfterView s move.rack (step_by s t move.rack r SecondRead m p) (protocol.turn first_edition s.racks s.lanes h move)
    unfolding step_by second_read_taken model.settled is_last end_block
    round_end_view m p =
        let one = last_one in
        rw (
          ends s h move r inv ready.there w (all_taken s t h move r ready inv tables v w late low last),
          le-ltb (suc w.block) s.lanes (omega arith),
          eq-eqb (r.step + 1) (round_steps s) over,
          read_ends s t h move r ready inv tables v w late low last,
        )
        (record { tables = round_tables; rack = rack_changed s h₁ q S h.decided begun round_view })
