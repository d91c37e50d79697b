-- The last step of a block that is not the round's last: the rack goes on to its next block, and shows it.
use mathlib.Core.Path.{◌≡◌, sym, ap, ◌∙◌}
use mathlib.Core.Logic.{◌≢◌}
use Prim.Native.Nat.{ℕ, suc, ◌+◌, ◌-◌, ◌≤◌, ◌<◌}
use native.Mathlib.Omega.{arith}
use borrow.Author.Tests.{eq-eqb, ne_eqb, lt-ltb}
use Rattle.model.specs.declared.Size.{Size}
use Rattle.model.specs.declared.Rack as card
use Rattle.model.specs.declared.Kind.TheVariants.{SecondRead}
use Rattle.model.specs.Size.{block_steps, round_steps}
use Rattle.model.specs.Table.{Tables}
use Rattle.model.specs.Kind.{place_at, lane_of, lane_at, block_of}
use Rattle.model.specs.Step.{second_gathered, block_ended, after_second_read, is_last, second_read_taken, step_by}
use Rattle.model.proofs.Place.{stands_over, stands_block, last_block}
use Rattle.steady.proofs.Kept.{Ready}
use Rattle.steady.proofs.BlockEnd.{none_gathered, ended}
use Rattle.protocol.specs.AdoptCommit.{Marked}
use Rattle.protocol.specs.Object.{Object, taken}
use Rattle.protocol.specs.FirstEdition.{first_edition}
use Rattle.protocol.specs.History as protocol
use Rattle.protocol.specs.History.{visiting, Rack, History, Turn, enter, end_block}
use Rattle.protocol.specs.Clock.{step_in}
use Rattle.model.proofs.Order.{block_of_lane}
use Rattle.protocol.proofs.Invariant.{Invariant}
use Rattle.night.specs.View.{RackView}
use Rattle.night.proofs.View.Standing.{Visiting, place_is}
use Rattle.night.proofs.View.Moves.{r₀, c₀, new, moved, ends}
use Rattle.night.proofs.View.Within.{else_old}
use Rattle.night.proofs.View.Tables.{TablesView, AfterView, second_read_tables}
use Rattle.night.proofs.View.Gathered.{no_firsts, no_seconds}
use Rattle.night.proofs.View.RackChange.{racked, all_racks, rack_changed, tables_changed}
use Rattle.night.proofs.View.Reading.{is_read}
use Rattle.night.proofs.View.Outcome.{all_taken, results_ended, news_ended}

module _ (s : Size) (t : Tables) (h : History Marked) (move : Turn) (r : card.Rack) (ready : Ready s t move.rack r)
    (inv : Invariant first_edition s.racks s.lanes h) (tables : TablesView s t h) (v : RackView s h move.rack r)
    (w : Visiting s h move.rack r) (late : 2 ≤ r.step) (low : s.racks + 2 ≤ place_at s r.step)
    (last : place_at s r.step + 1 ≡ block_steps s) where
  abbrev q : ℕ
  q = move.rack

  abbrev fin : ℕ
  fin = r₀ s h move r inv ready.there w

  abbrev first : ℕ
  first = (h.racks q).first fin

  abbrev c : ℕ
  c = c₀ s h move r inv ready.there w

  abbrev h₁ : History Marked
  h₁ = moved s h move r inv ready.there w

  abbrev end : card.Rack
  end = ended s t move.rack r ready late low

  pub read_ends : after_second_read s t.cells move.rack r ≡ ended s t move.rack r ready late low
  unfolding after_second_read second_gathered block_ended block_steps
  read_ends = let n = ready.sizes.racks_low in rw (eq-eqb (place_at s r.step - (s.racks + 2) + 1) s.racks (omega arith))

  pub read_tables : TablesView s t (moved s h move r inv ready.there w)
  read_tables =
      second_read_tables s t h tables fin c q (new s h move r inv ready.there w) (is_read s t h move r ready inv tables v w low)

  -- the lane of the next block
  abbrev c' : ℕ
  c' = lane_of first (suc w.block)

  other_lane : c' ≢ c
  other_lane e =
      let f = ap (block_of first) e in
      let g = block_of_lane first (suc w.block) in
      let i = block_of_lane first w.block in
      omega arith

  not_begun : taken (h.objects fin c') q ≡ 0
  not_begun = w.later c' (let e = block_of_lane first (suc w.block) in omega arith)

  lane_next : lane_at s end ≡ c'
  lane_next =
      let place = place_is s h q r w in
      let at = stands_over s r.step w.block _ w.at (ap (λ (x : ℕ). x + 1) (sym place) ∙ last) in
      let e : w.block + 1 ≡ suc w.block = omega arith in
      λ i. lane_of (w.first_is i) ((stands_block s (r.step + 1) (w.block + 1) 0 at ∙ e) i)

  same_object : h₁.objects fin c' ≡ h.objects fin c'
  same_object = else_old s h move r inv ready.there w v c' other_lane

  abbrev a' : Rack
  a' = enter (h.racks q) (visiting (suc w.block))

  next_view : RackView s (all_racks h₁ a') q end
  unfolding step_in block_steps
  next_view =
      let counted = w.at.counted in
      let place = place_is s h q r w in
      let e : taken (h₁.objects fin c') q ≡ 0 = ap (λ (o : Object Marked). taken o q) same_object ∙ not_begun in
      let None-first = no_firsts s.racks (h.objects fin c') (inv.consistent fin c') q not_begun in
      let none_second = no_seconds s.racks (h.objects fin c') (inv.consistent fin c') q not_begun in
      record {
        in_range = v.in_range;
        round = v.round;
        step = omega arith;
        first = w.first_is;
        firsts = λ i l. rw (lane_next, same_object, None-first i) (none_gathered i l);
        seconds = λ i l. rw (lane_next, same_object, none_second i) (none_gathered i l);
        held = v.held;
        results = results_ended s t h move r ready inv tables v w late low last;
        news = news_ended s t h move r ready inv tables v w late low last;
      }

  module _ (more : suc w.block < s.lanes) where
    ended_tables : TablesView s t (racked h₁ q a' h.decided)
    ended_tables =
        let d = read_tables in
        tables_changed s h₁ q a' h.decided t
        (λ round lane b l. rw w.is at (d.offers_shown round lane q b l ready.there))
        (λ round lane p n b l u. d.offers_shown round lane p b l u)
        (λ lane l. d.logs_shown q lane ready.there l)
        (λ p lane n u l. d.logs_shown p lane u l)
        d.firsts_shown d.seconds_shown d.decisions_shown

    pub block_end_view : (m p : ℕ) → AfterView s q (step_by s t q r SecondRead m p) (protocol.turn first_edition s.racks s.lanes h move)
    unfolding step_by second_read_taken is_last end_block
    block_end_view m p =
        rw (
          ends s h move r inv ready.there w (all_taken s t h move r ready inv tables v w late low last),
          lt-ltb (suc w.block) s.lanes more,
          ne_eqb (r.step + 1) (round_steps s) (λ e. let f = last_block s r.step w.block _ w.at e w.below in omega arith),
          read_ends,
        )
        (record { tables = ended_tables; rack = rack_changed s h₁ q a' h.decided end next_view })
