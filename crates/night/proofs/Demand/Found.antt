-- A rack that has taken all steps of a lane's block took the last of them in one of the night's turns, and that was its last read there.
use mathlib.Core.Path.{◌≡◌, refl, sym, ap, ◌∙◌}
use mathlib.Core.Logic.{◌≢◌}
use mathlib.Core.Bool.{true, false, cond}
use mathlib.Core.List.{List, [], ◌∷◌, ◌++◌}
use Prim.Native.Nat.{ℕ, suc, ◌+◌, ◌*◌, ◌≤◌, ◌<◌}
use native.Mathlib.Omega.{arith}
use borrow.Author.Tests.{eqb-true, eqb-false, ltb-true, ltb-false}
use lib.Dec.{eqb, ltb}
use Rattle.laws.proofs.Cases.{either, bool, eq_or_ne, lt_or_ge}
use Rattle.model.specs.declared.Size.{Size}
use Rattle.model.specs.declared.Rack as card
use Rattle.model.specs.declared.Kind.TheVariants.{SecondRead}
use Rattle.model.specs.Size.{size_fits, block_steps}
use Rattle.model.specs.Table.{Card, rack_at}
use Rattle.model.specs.Kind.{kind_of, place_at, lane_at, second_read, block_of, steps_in}
use Rattle.model.specs.Turn.{rack_of, turned}
use Rattle.model.specs.Fresh.{fresh_card}
use Rattle.protocol.specs.AdoptCommit.{Marked}
use Rattle.protocol.specs.Object.{Object, Move, step, taken}
use Rattle.protocol.specs.FirstEdition.{first_edition, second_cell}
use Rattle.protocol.specs.History.{Phase, offering, answering, visiting, History, past_answer, proposal, move, turn, after, fresh_history}
use Rattle.protocol.specs.Clock.{block_length, step_in}
use Rattle.protocol.proofs.Put.{put_at_same, put_at_lane, put_at_round}
use Rattle.protocol.proofs.Steps.{fresh_taken, own_move_is}
use Rattle.protocol.proofs.Others.{turn_apart}
use Rattle.protocol.proofs.HowFar.{how_far}
use Rattle.model.proofs.Place.{stands, block_long}
use Rattle.model.proofs.Ranges.{by_kind}
use Rattle.night.specs.Machine.{card, from, reached}
use Rattle.night.specs.Demands.{steps_taken}
use Rattle.night.specs.View.{turn_of, moves_from}
use Rattle.night.proofs.Demand.Tied.{Tied, Tie}
use Rattle.night.proofs.Demand.Reached.{after_taken, after_refused, history_of, fresh_tied, taken_tied, refused_tied, reached_tied}
use Rattle.night.proofs.Demand.Work.{block_length_is, AtWork, shown, small, at_work}
use Rattle.protocol.proofs.Lasting.{turn_moves, turn_still}

-- a turn is rack q's last read in a lane of its round
pub record LastTurn (s : Size) (c : Card) (t : List ℕ) (q round lane : ℕ) : Type 0 where
  pub is_taken : (turned s c t).number ≡ 0
  pub of_rack : rack_of t ≡ q
  pub in_round : (rack_at c.racks q).round ≡ round
  pub in_lane : lane_at s (rack_at c.racks q) ≡ lane
  pub reads : kind_of s (rack_at c.racks q).step ≡ SecondRead
  pub last : suc (second_read s (place_at s (rack_at c.racks q).step)) ≡ s.racks

-- and stands in a list of turns
pub record Found (s : Size) (c : Card) (turns : List (List ℕ)) (q round lane : ℕ) : Type 0 where
  pub before : List (List ℕ)
  pub turn : List ℕ
  pub later : List (List ℕ)
  pub split : turns ≡ before ++ (turn ∷ later)
  pub is_last : LastTurn s (from card s c before) turn q round lane

-- a rack before its blocks has no answer
not_answered : (s : Size) (c : Card) (h : History Marked) → Tied s c h → (q : ℕ) → q < s.racks → (rack_at c.racks q).step < 2
    → past_answer (h.racks q).phase ≡ false
not_answered s c h tied q l early = go (h.racks q).phase (shown s c h tied q l).step
  where
    go : (phase : Phase)
        → (rack_at c.racks q).step ≡ step_in s.racks h.objects q (h.racks q).finished ((h.racks q).first (h.racks q).finished) phase
        → past_answer phase ≡ false
    go offering e = refl
    go answering e = refl
    go (visiting b) e = unfold step_in in absurd (omega arith)

module _ (s : Size) (c : Card) (h : History Marked) (tied : Tied s c h) (q : ℕ) (l : q < s.racks) (r lane : ℕ) (t : List ℕ)
    (is_taken : (turned s c t).number ≡ 0) (before : taken (h.objects r lane) q ≢ block_steps s)
    (now : taken ((turn first_edition s.racks s.lanes h (turn_of t)).objects r lane) q ≡ block_steps s) where
  abbrev a : card.Rack
  a = rack_at c.racks q

  abbrev R : ℕ
  R = (h.racks q).finished

  abbrev h₁ : History Marked
  h₁ = turn first_edition s.racks s.lanes h (turn_of t)

  own_turn : rack_of t ≡ q
  own_turn =
      either (eq_or_ne q (rack_of t))
      (λ (e : q ≡ rack_of t). sym e)
      (λ (d : q ≢ rack_of t).
      absurd (before (sym ((turn_apart first_edition s.racks s.lanes h tied.invariant (turn_of t) q d).1 r lane) ∙ now)))

  late : 2 ≤ a.step
  late =
      either (lt_or_ge a.step 2)
      (λ (early : a.step < 2).
      let none : past_answer (h.racks (rack_of t)).phase ≡ false = rw own_turn (not_answered s c h tied q l early) in
      let still = turn_still first_edition s.racks s.lanes h (turn_of t) none in
      absurd (before (sym (ap (λ (f : ℕ → ℕ → Object Marked). taken (f r lane) q) still) ∙ now)))
      (λ (g : 2 ≤ a.step). g)

  abbrev b : ℕ
  b = (at_work s c h tied q l late).0

  work : AtWork s h q a b
  work = (at_work s c h tied q l late).1

  -- its one step is in the object of its round and lane at work
  moved : h₁.objects ≡ (move first_edition s.racks s.lanes h q (lane_at s a)).objects
  moved =
      turn_moves first_edition s.racks s.lanes h (turn_of t) q b own_turn l work.is
      ∙ ap (λ (x : ℕ). (move first_edition s.racks s.lanes h q x).objects) (sym work.in_lane)

  now_moved : taken ((move first_edition s.racks s.lanes h q (lane_at s a)).objects r lane) q ≡ block_steps s
  now_moved = ap (λ (f : ℕ → ℕ → Object Marked). taken (f r lane) q) (sym moved) ∙ now

  same_round : r ≡ R
  same_round =
      either (eq_or_ne r R)
      (λ (e : r ≡ R). e)
      (λ (d : r ≢ R).
      absurd (before (ap (λ (o : Object Marked). taken o q) (sym (put_at_round h.objects R (lane_at s a) _ r lane d)) ∙ now_moved)))

  same_lane : lane ≡ lane_at s a
  same_lane =
      either (eq_or_ne lane (lane_at s a))
      (λ (e : lane ≡ lane_at s a). e)
      (λ (d : lane ≢ lane_at s a).
      absurd (before (ap (λ (o : Object Marked). taken o q) (sym (put_at_lane h.objects R (lane_at s a) _ r lane d)) ∙ now_moved)))

  last_place : place_at s a.step + 1 ≡ block_steps s
  last_place =
      let o = h.objects R (lane_at s a) in
      let v : Move = record { rack = q; proposal = proposal h q R (lane_at s a) } in
      let one_more : taken (step second_cell s.racks o v) q ≡ block_steps s =
      ap (λ (o : Object Marked). taken o q) (sym (put_at_same h.objects R (lane_at s a) (step second_cell s.racks o v)))
      ∙ (λ i. taken ((move first_edition s.racks s.lanes h q (lane_at s a)).objects (sym same_round i) (sym same_lane i)) q)
      ∙ now_moved
      in
      omega (
        arith,
        one_more,
        own_move_is second_cell s.racks o v (tied.invariant.consistent R (lane_at s a)),
        block_length_is s,
        work.at_place,
        (stands s a.step late).below,
      )

  last_turn : LastTurn s c t q (suc r) lane
  unfolding block_steps
  last_turn =
      let n = (small s c h tied q l).racks_low in
      record {
        is_taken = is_taken;
        of_rack = own_turn;
        in_round = omega (arith, (shown s c h tied q l).round, same_round);
        in_lane = sym same_lane;
        reads =
            by_kind s (λ kind. kind ≡ SecondRead) a.step
            (λ e. absurd (omega (arith, late)))
            (λ e. absurd (omega (arith, late)))
            (λ _ e. absurd (omega (arith, last_place)))
            (λ _ low high. absurd (omega (arith, last_place)))
            (λ _ e. absurd (omega (arith, last_place)))
            (λ _ low. refl);
        last = omega (arith, last_place);
      }

-- the first turn after which the rack has taken all steps there
module _ (s : Size) (tie : Tie s) (q : ℕ) (l : q < s.racks) (r lane : ℕ) where
  -- one turn earlier
  put_before : (c : Card) (t : List ℕ) (turns : List (List ℕ)) → Found s (turned s c t).card turns q (suc r) lane
      → Found s c (t ∷ turns) q (suc r) lane
  unfolding from
  put_before c t turns f =
      record {
        before = t ∷ f.before;
        turn = f.turn;
        later = f.later;
        split = ap (λ (x : List (List ℕ)). t ∷ x) f.split;
        is_last = f.is_last;
      }

  found_first : (c : Card) (t : List ℕ) (turns : List (List ℕ)) → LastTurn s c t q (suc r) lane → Found s c (t ∷ turns) q (suc r) lane
  unfolding from
  found_first c t turns is = record { before = []; turn = t; later = turns; split = refl; is_last = is }

  find : (c : Card) (h : History Marked) → Tied s c h → taken (h.objects r lane) q ≢ block_steps s → (turns : List (List ℕ))
      → taken ((after first_edition s.racks s.lanes h (moves_from s c turns)).objects r lane) q ≡ block_steps s
      → Found s c turns q (suc r) lane
  find c h tied before [] end = unfold moves_from after in absurd (before end)
  find c h tied before (t ∷ turns) end =
      either (bool (eqb (turned s c t).number 0))
      (λ y.
      let h₁ = turn first_edition s.racks s.lanes h (turn_of t) in
      either (eq_or_ne (taken (h₁.objects r lane) q) (block_steps s))
      (λ now. found_first c t turns (last_turn s c h tied q l r lane t (eqb-true (turned s c t).number 0 y) before now))
      (λ not_yet.
      put_before c t turns
      (find (turned s c t).card h₁ (taken_tied s tie c h tied t y) not_yet turns
      (ap (λ (x : History Marked). taken (x.objects r lane) q) (sym (after_taken s c h t turns y)) ∙ end))))
      (λ n.
      put_before c t turns
      (find (turned s c t).card h (refused_tied s tie c h tied t n) before turns
      (ap (λ (x : History Marked). taken (x.objects r lane) q) (sym (after_refused s c h t turns n)) ∙ end)))

-- the steps that the card counts are those of the object
steps_now : (s : Size) (c : Card) (h : History Marked) → Tied s c h → (q : ℕ) → q < s.racks → (lane : ℕ)
    → steps_in s (rack_at c.racks q) lane ≡ taken (h.objects (h.racks q).finished lane) q
unfolding steps_in block_steps
steps_now s c h tied q l lane =
    let a = rack_at c.racks q in
    let far = (how_far first_edition s.racks s.lanes h tied.invariant tied.clocked q l).now lane in
    either (lt_or_ge a.step 2)
    (λ (early : a.step < 2). omega (arith, (shown s c h tied q l).step))
    (λ (late : 2 ≤ a.step).
    let first = ap (λ (x : ℕ). block_of x lane * block_length s.racks) (at_work s c h tied q l late).1.first_is in
    omega (arith, (shown s c h tied q l).step))

steps_shown : (s : Size) (c : Card) (h : History Marked) → Tied s c h → (q : ℕ) → q < s.racks → (r lane : ℕ) → lane < s.lanes
    → let a = rack_at c.racks q in
    cond (ltb (suc r) a.round) (block_steps s) (cond (eqb (suc r) a.round) (steps_in s a lane) 0) ≡ taken (h.objects r lane) q
steps_shown s c h tied q l r lane lb =
    let a = rack_at c.racks q in
    let far = how_far first_edition s.racks s.lanes h tied.invariant tied.clocked q l in
    let round = (shown s c h tied q l).round in
    either (bool (ltb (suc r) a.round))
    (λ y. rw y (block_length_is s ∙ sym (far.before r lane (omega (arith, ltb-true (suc r) a.round y)) lb)))
    (λ n. either (bool (eqb (suc r) a.round))
    (λ y.
    let here : r ≡ (h.racks q).finished = omega (arith, eqb-true (suc r) a.round y) in
    rw (n, y, here) (steps_now s c h tied q l lane))
    (λ f. rw (n, f) (sym (far.beyond r lane (omega (arith, ltb-false (suc r) a.round n, eqb-false (suc r) a.round f))))))

pub steps_object : (s : Size) (tie : Tie s) → size_fits s ≡ true → (turns : List (List ℕ)) (q r lane : ℕ) → q < s.racks → lane < s.lanes
    → steps_taken card s turns q (suc r) lane ≡ taken ((history_of s turns).objects r lane) q
steps_object s tie e turns q r lane l lb = steps_shown s (reached card s turns) (history_of s turns) (reached_tied s tie e turns) q l r lane lb

pub found : (s : Size) (tie : Tie s) → size_fits s ≡ true → (turns : List (List ℕ)) (q r lane : ℕ) → q < s.racks → lane < s.lanes
    → steps_taken card s turns q (suc r) lane ≡ block_steps s → Found s (fresh_card s) turns q (suc r) lane
found s tie e turns q r lane l lb steps =
    find s tie q l r lane (fresh_card s) (fresh_history first_edition) (fresh_tied s tie e)
    (λ z. omega (arith, fresh_taken Marked q, block_long s))
    turns
    (sym (steps_object s tie e turns q r lane l lb) ∙ steps)
