-- The round's last step never finds a log too long: what settling would leave is a log of the history, which has no more entries than its
-- rack has finished rounds.
use mathlib.Core.Path.{◌≡◌, sym, ap, ◌∙◌}
use mathlib.Core.Logic.{◌≢◌}
use mathlib.Core.Bool.{true, false, not, ◌&&◌}
use Prim.Native.Nat.{ℕ, suc, ◌+◌, ◌≤◌, ◌<◌}
use native.Mathlib.Omega.{arith}
use borrow.Author.Tests.{eq-eqb, eqb-true, le-leb}
use lib.Dec.{eqb, leb}
use Rattle.laws.proofs.Cases.{either, bool, eq_or_ne}
use Rattle.laws.proofs.Below.{all_below}
use Rattle.model.specs.declared.Size.{Size}
use Rattle.model.specs.declared.Value.{Value}
use Rattle.model.specs.declared.Rack as card
use Rattle.model.specs.Size.{block_steps, round_steps}
use Rattle.model.specs.Record.{is_committed}
use Rattle.model.specs.Table.{Card, rack_at, result_at, news_at}
use Rattle.model.specs.Kind.{block_at, place_at, lane_of, lane_at, block_of}
use Rattle.model.specs.Settle as settle
use Rattle.model.specs.Step.{after_second_read, is_last}
use Rattle.model.specs.Turn.{overfull}
use Rattle.protocol.specs.AdoptCommit.{Marked}
use Rattle.protocol.specs.Object.{Object, step, Done, taken}
use Rattle.protocol.specs.Edition.{result, news_of}
use Rattle.protocol.specs.FirstEdition.{first_edition, second_cell}
use Rattle.protocol.specs.Log.{Log, size}
use Rattle.protocol.specs.Settle.{append_missed, append_committed, settled_log}
use Rattle.protocol.specs.History.{Rack, History, Turn, settled, move, turn}
use Rattle.protocol.proofs.Put.{put_same, put_at_same, put_at_lane}
use Rattle.protocol.proofs.Steps.{done_taken}
use Rattle.model.proofs.Order.{lane_of_block, block_below}
use Rattle.protocol.proofs.FirstEdition.{first_lawful}
use Rattle.protocol.proofs.Invariant.{InPhase}
use Rattle.protocol.proofs.Turn.{turn_invariant}
use Rattle.protocol.proofs.Lanes.{log_within}
use Rattle.model.proofs.Place.{Stands, stands, last_block, last_place}
use Rattle.steady.proofs.Kept.{block_there}
use Rattle.steady.proofs.Leading.{round_long}
use Rattle.night.specs.View.{marked_cell}
use Rattle.night.proofs.Demand.Tied.{Tied}
use Rattle.night.proofs.Demand.Marks.{marked_committed, marked_value}
use Rattle.night.proofs.Demand.Work.{block_length_is, AtWork, shown, small, rack_sound, at_work}
use Rattle.night.proofs.Demand.LastRead.{own_move, current, is_done_is, last_result_is, last_news_is, other_result, other_news}
use Rattle.protocol.proofs.Lasting.{turn_settles}

-- either rule makes a log of the table as long as one of the history
missed_size : (log : settle.Log) (l : Log) (v : Value) → log.length ≡ size l → (settle.append_missed log v).length ≡ size (append_missed l v)
unfolding settle.append_missed append_missed
missed_size log l v e =
    let same = ap (λ (x : ℕ). eqb v.place (suc x)) e in
    either (bool (eqb v.place (suc (size l))))
    (λ t. rw (same ∙ t, t) (ap suc e))
    (λ f. rw (same ∙ f, f) e)

committed_size : (log : settle.Log) (l : Log) (m : Marked) → log.length ≡ size l
    → (settle.append_committed log (marked_cell m)).length ≡ size (append_committed l m)
unfolding settle.append_committed append_committed
committed_size log l m e =
    let same : is_committed (marked_cell m) && eqb (marked_cell m).value.place log.length ≡ m.committed && eqb m.value.place (size l) =
    λ i. marked_committed m i && eqb (marked_value m i).place (e i)
    in
    either (bool (m.committed && eqb m.value.place (size l)))
    (λ t. rw (same ∙ t, t) (ap suc e))
    (λ f. rw (same ∙ f, f) e)

settled_size : (log : settle.Log) (l : Log) (m : Marked) (v : Value) → log.length ≡ size l
    → (settle.settled_log log (marked_cell m) v).length ≡ size (settled_log l m v)
unfolding settled_log
settled_size log l m v e = committed_size (settle.append_missed log v) (append_missed l v) m (missed_size log l v e)

module _ (s : Size) (c : Card) (h : History Marked) (tied : Tied s c h) (q : ℕ) (l : q < s.racks)
    (last : (rack_at c.racks q).step + 1 ≡ round_steps s) where
  abbrev r : card.Rack
  r = rack_at c.racks q

  abbrev a : Rack
  a = h.racks q

  abbrev R : ℕ
  R = a.finished

  abbrev lane : ℕ
  lane = lane_at s r

  late : 2 ≤ r.step
  late = omega (arith, round_long s (small s c h tied q l).lanes_low)

  at : Stands s r.step (block_at s r.step) (place_at s r.step)
  at = stands s r.step late

  there : block_at s r.step < s.lanes
  there = block_there s c.tables q r (rack_sound s c h tied q l) late

  end : place_at s r.step + 1 ≡ block_steps s
  end = last_place s r.step (block_at s r.step) (place_at s r.step) at last there

  abbrev b : ℕ
  b = (at_work s c h tied q l late).0

  work : AtWork s h q r b
  work = (at_work s c h tied q l late).1

  ends_round : s.lanes ≤ suc b
  ends_round = omega (arith, last_block s r.step (block_at s r.step) (place_at s r.step) at last there, work.in_block)

  -- the history's own step, and its turn
  abbrev h₁ : History Marked
  h₁ = move first_edition s.racks s.lanes h q lane

  abbrev t : Turn
  t = record { rack = q; lane = 0; source = 0 }

  here : h₁.objects R lane ≡ step second_cell s.racks (h.objects R lane) (own_move s c h tied q l late end)
  here = put_at_same h.objects R lane (step second_cell s.racks (h.objects R lane) (own_move s c h tied q l late end))

  settles : (turn first_edition s.racks s.lanes h t).racks q ≡ settled first_edition h₁ q a
  settles =
      rw work.in_lane
      (turn_settles first_edition s.racks s.lanes h t b l work.is ends_round
      (rw (← work.in_lane, here) (is_done_is s c h tied q l late end)))

  -- every lane's result and news, when its blocks have ended
  abbrev ended : card.Rack
  ended = after_second_read s c.tables.cells q r

  module _ (lane' : ℕ) (lb : lane' < s.lanes) where
    abbrev o : Object Marked
    o = h₁.objects R lane'

    -- a lane of an earlier block was done before
    all_taken : lane' ≢ lane → taken (h.objects R lane') q ≡ block_steps s
    all_taken d =
        let phase : InPhase first_edition s.racks s.lanes h.objects q R (a.first R) a.phase =
        (tied.invariant.rack_invariant q l).in_phase
        in
        let before : (x : ℕ) → block_of (a.first R) x < b → Done s.racks (h.objects R x) q = (rw work.is at phase).1 in
        let apart : block_of (a.first R) lane' ≢ b =
        λ e. d (sym (lane_of_block (a.first R) lane') ∙ ap (lane_of (a.first R)) e ∙ sym work.in_lane)
        in
        let below = block_below (a.first R) s.lanes lane' work.first_below lb in
        done_taken second_cell s.racks (h.objects R lane') (tied.invariant.consistent R lane') q l
        (before lane' (omega (arith, ends_round)))
        ∙ sym (block_length_is s)

    same_object : lane' ≢ lane → o ≡ h.objects R lane'
    same_object d = put_at_lane h.objects R lane _ R lane' d

    result_is : result_at ended lane' ≡ marked_cell (result first_edition o q)
    result_is =
        either (eq_or_ne lane' lane)
        (λ (e : lane' ≡ lane). rw (e, here) (last_result_is s c h tied q l late end))
        (λ (d : lane' ≢ lane).
        let shows = (shown s c h tied q l).results lane' lb in
        other_result s c h tied q l late end lane' d
        ∙ (rw (eq-eqb (taken (h.objects R lane') q) (block_steps s) (all_taken d)) at shows)
        ∙ ap (λ (x : Object Marked). marked_cell (result first_edition x q)) (sym (same_object d)))

    news_is : news_at ended lane' ≡ news_of first_edition o q
    news_is =
        either (eq_or_ne lane' lane)
        (λ (e : lane' ≡ lane). rw (e, here) (last_news_is s c h tied q l late end))
        (λ (d : lane' ≢ lane).
        let shows = (shown s c h tied q l).news lane' lb in
        other_news s c h tied q l late end lane' d
        ∙ (rw (eq-eqb (taken (h.objects R lane') q) (block_steps s) (all_taken d)) at shows)
        ∙ ap (λ (x : Object Marked). news_of first_edition x q) (sym (same_object d)))

    abbrev left : Log
    left = settled_log (a.log R lane') (result first_edition o q) (news_of first_edition o q)

    -- the log that settling leaves is as long as the history's
    lane_size : (settle.lane_log s q c.tables.logs ended lane').length ≡ size left
    unfolding settle.lane_log
    lane_size =
        let log = settle.log_of s c.tables.logs q lane' in
        (λ i. (settle.settled_log log (result_is i) (news_is i)).length)
        ∙ settled_size log (a.log R lane') (result first_edition o q) (news_of first_edition o q)
        (tied.view.logs_shown q lane' l lb).length

    left_short : size left ≤ suc R
    left_short =
        let next = turn first_edition s.racks s.lanes h t in
        let inv = turn_invariant first_edition first_lawful s.racks s.lanes h t tied.invariant in
        let finished : (next.racks q).finished ≡ suc R = ap (λ (x : Rack). x.finished) settles in
        let log : (next.racks q).log (suc R) lane' ≡ left =
        ap (λ (x : Rack). x.log (suc R) lane') settles ∙ ap (λ (f : ℕ → Log). f lane') (put_same a.log (suc R) _)
        in
        omega (
          arith,
          log_within first_edition first_lawful s.racks s.lanes next inv lane' lb (suc R) q l (omega (arith, finished)),
          ap size log,
        )

    fits_rounds : leb (settle.lane_log s q c.tables.logs ended lane').length s.rounds ≡ true
    fits_rounds =
        le-leb (settle.lane_log s q c.tables.logs ended lane').length s.rounds
        (omega (arith, lane_size, left_short, current s c h tied q l late end))

  pub not_too_long : settle.too_long s q c.tables.logs (after_second_read s c.tables.cells q (rack_at c.racks q)) ≡ false
  unfolding settle.too_long
  not_too_long = ap not (all_below s.lanes _ fits_rounds)

-- "Number 8 needs a hand-made table."
pub not_overfull : (s : Size) (c : Card) (h : History Marked) → Tied s c h → (q : ℕ) → q < s.racks
    → overfull s c.tables q (rack_at c.racks q) ≡ false
unfolding overfull is_last
not_overfull s c h tied q l =
    either (bool (eqb ((rack_at c.racks q).step + 1) (round_steps s)))
    (λ e. rw e (not_too_long s c h tied q l (eqb-true ((rack_at c.racks q).step + 1) (round_steps s) e)))
    (λ e. rw e)
