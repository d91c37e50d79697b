-- The last read of a block gives the lane's result and news, and these are what the history's object gives its rack after that step.
use mathlib.Core.Path.{◌≡◌, refl, sym, ap, ◌∙◌}
use mathlib.Core.Logic.{◌≢◌}
use mathlib.Core.Option
use mathlib.Core.Option.{Option, none, some}
use mathlib.Core.List.{List, [], ◌∷◌, ◌++◌, map}
use Prim.Native.Nat.{ℕ, suc, ◌+◌, ◌≤◌, ◌<◌}
use native.Mathlib.Omega.{arith}
use borrow.Author.Tests.{eq-eqb}
use lib.ListN.{length, length-set}
use lib.Seq.{get_or-set_same, get_or-set_other}
use Rattle.model.specs.declared.Size.{Size}
use Rattle.model.specs.declared.Value.{Value}
use Rattle.model.specs.declared.Cell.{Cell}
use Rattle.model.specs.declared.Rack as card
use Rattle.model.specs.Size.{block_steps}
use Rattle.model.specs.Record.{no_value, no_cell}
use Rattle.model.specs.Table.{Card, first_cells, second_cells, read_cell, cell_now, rack_at, result_at, news_at}
use Rattle.model.specs.Kind.{place_at, lane_at, second_read}
use Rattle.model.specs.Block as block
use Rattle.model.specs.Step.{own, second_gathered, block_ended, after_second_read}
use Rattle.protocol.specs.AdoptCommit.{Marked}
use Rattle.protocol.specs.Layer.{read}
use Rattle.protocol.specs.Object.{Object, Move, read_second, step, taken, Done}
use Rattle.protocol.specs.Edition.{outcome, first_value, second_value, result, news_of}
use Rattle.protocol.specs.FirstEdition.{second_cell, news, first_edition}
use Rattle.protocol.specs.History.{History, proposal}
use Rattle.protocol.proofs.Put.{put_same}
use Rattle.protocol.proofs.Lists.{length_snoc}
use Rattle.protocol.proofs.Object.{Consistent}
use Rattle.protocol.proofs.Ranges.{Kind, first_write, first_read, second_write, second_read_is, over, kinds, firsts_read_is}
use Rattle.night.specs.View.{first_of, second_of, marked_cell}
use Rattle.night.proofs.Demand.Tied.{Tied}
use Rattle.night.proofs.View.Walk.{Shows}
use Rattle.night.proofs.View.Rules.{result_seen}
use Rattle.night.proofs.View.News.{news_seen}
use Rattle.night.proofs.View.Gathered.{one_more_shown}
use Rattle.night.proofs.Demand.Marks.{marked_value}
use Rattle.night.proofs.Demand.Work.{shown, small, rack_shape, round_left, at_work}

-- the marks of second cells are what they hold
same_marks : (cells : List (Option Marked)) → map (Option.map (λ (m : Marked). m)) cells ≡ cells
same_marks [] = refl
same_marks (none ∷ cells) = ap (λ (l : List (Option Marked)). none ∷ l) (same_marks cells)
same_marks (some m ∷ cells) = ap (λ (l : List (Option Marked)). some m ∷ l) (same_marks cells)

first_value_is : (c : Option Value) → (first_of c).value ≡ first_value first_edition c
first_value_is none = refl
first_value_is (some v) = refl

second_value_is : (c : Option Marked) → (second_of c).value ≡ second_value first_edition c
second_value_is none = refl
second_value_is (some m) = marked_value m

module _ (s : Size) (c : Card) (h : History Marked) (tied : Tied s c h) (q : ℕ) (l : q < s.racks)
    (late : 2 ≤ (rack_at c.racks q).step) (end : place_at s (rack_at c.racks q).step + 1 ≡ block_steps s) where
  abbrev r : card.Rack
  r = rack_at c.racks q

  abbrev R : ℕ
  R = (h.racks q).finished

  abbrev lane : ℕ
  lane = lane_at s r

  abbrev o : Object Marked
  o = h.objects R lane

  abbrev pub own_move : Move
  own_move = record { rack = q; proposal = proposal h q (h.racks q).finished (lane_at s (rack_at c.racks q)) }

  consistent : Consistent second_cell s.racks o
  consistent = tied.invariant.consistent R lane

  pub all_but_one : taken (h.objects (h.racks q).finished (lane_at s (rack_at c.racks q))) q + 1 ≡ block_steps s
  all_but_one = let w = at_work s c h tied q l late in omega (arith, w.1.at_place)

  pub lane_there : lane_at s (rack_at c.racks q) < s.lanes
  lane_there = (at_work s c h tied q l late).1.lane_below

  pub current : (h.racks q).finished < s.rounds
  current = round_left s c h tied q l (omega (arith, late))

  -- it reads the last of n second cells
  is_read : (i : ℕ) × (suc i ≡ s.racks) × (length (o.seconds q).gathered ≡ i) × (step second_cell s.racks o own_move ≡ read_second o q)
  unfolding block_steps
  is_read = go (kinds second_cell s.racks o own_move consistent)
    where
      go : Kind second_cell s.racks o q own_move.proposal (step second_cell s.racks o own_move)
          → (i : ℕ) × (suc i ≡ s.racks) × (length (o.seconds q).gathered ≡ i) × (step second_cell s.racks o own_move ≡ read_second o q)
      go (first_write e f) = absurd (omega (arith, all_but_one))
      go (first_read i b e g f) = absurd (omega (arith, all_but_one))
      go (second_write x e g f) = absurd (omega (arith, all_but_one))
      go (second_read_is i b e g f) = (i, omega (arith, all_but_one), g, f)
      go (over e f) = absurd (omega (arith, all_but_one))

  -- the second cells that it has read then, in the history and on the card
  abbrev i : ℕ
  i = second_read s (place_at s r.step)

  abbrev seconds : List (Option Marked)
  seconds = (o.seconds q).gathered ++ ((o.seconds i).cell ∷ [])

  the_last : suc i ≡ s.racks
  unfolding block_steps
  the_last = let x = is_read in omega (arith, x.1)

  read_before : length (o.seconds q).gathered ≡ i
  read_before = let x = is_read in omega (arith, x.1, x.2, the_last)

  abbrev g : card.Rack
  g = second_gathered s c.tables.cells q r

  cell_read : cell_now s c.tables.cells r second_cells lane i ≡ second_of (o.seconds i).cell
  cell_read =
      ap (λ (x : ℕ). read_cell s c.tables.cells second_cells x lane i) (shown s c h tied q l).round
      ∙ tied.view.seconds_shown R lane i current lane_there (omega (arith, the_last))

  all_read : length seconds ≡ s.racks
  all_read = omega (arith, length_snoc (o.seconds q).gathered (o.seconds i).cell, read_before, the_last)

  seconds_shown : Shows second_of g.seconds seconds
  unfolding second_gathered
  seconds_shown =
      let n = (small s c h tied q l).racks_high in
      let long = (rack_shape s c h tied q l).seconds in
      record {
        room = omega (arith, all_read, length-set r.seconds i (cell_now s c.tables.cells r second_cells lane i));
        each = λ j b.
            one_more_shown (o.seconds q).gathered (o.seconds i).cell second_of r.seconds i
            (cell_now s c.tables.cells r second_cells lane i) (sym read_before) (omega (arith, the_last)) cell_read
            (λ x y. (shown s c h tied q l).seconds x y) j (omega (arith, all_read));
      }

  firsts_long : length (o.firsts q).gathered ≡ s.racks
  unfolding block_steps
  firsts_long = omega (arith, firsts_read_is second_cell s.racks o consistent q, all_but_one)

  firsts_shown : Shows first_of g.firsts (o.firsts q).gathered
  unfolding second_gathered
  firsts_shown =
      let n = (small s c h tied q l).racks_high in
      let long = (rack_shape s c h tied q l).firsts in
      record {
        room = omega (arith, firsts_long);
        each = λ j b. (shown s c h tied q l).firsts j (omega (arith, firsts_long));
      }

  own_is : own s c.tables.cells q r ≡ first_value first_edition (o.firsts q).cell
  own_is =
      ap (λ (x : ℕ). (read_cell s c.tables.cells first_cells x lane q).value) (shown s c h tied q l).round
      ∙ ap (λ (x : Cell). x.value) (tied.view.firsts_shown R lane q current lane_there l)
      ∙ first_value_is (o.firsts q).cell

  second_is : (cell_now s c.tables.cells r second_cells lane q).value ≡ second_value first_edition (o.seconds q).cell
  second_is =
      ap (λ (x : ℕ). (read_cell s c.tables.cells second_cells x lane q).value) (shown s c h tied q l).round
      ∙ ap (λ (x : Cell). x.value) (tied.view.seconds_shown R lane q current lane_there l)
      ∙ second_value_is (o.seconds q).cell

  -- the object after the step
  abbrev o' : Object Marked
  o' = step second_cell s.racks o own_move

  slot_is : o'.seconds q ≡ record { cell = (o.seconds q).cell; gathered = seconds }
  slot_is =
      ap (λ (x : Object Marked). x.seconds q) is_read.3
      ∙ put_same o.seconds q (read o.seconds (o.seconds q))
      ∙ ap (λ (x : ℕ). record { cell = (o.seconds q).cell; gathered = (o.seconds q).gathered ++ ((o.seconds x).cell ∷ []) }) read_before

  firsts_same : o'.firsts q ≡ o.firsts q
  firsts_same = ap (λ (x : Object Marked). x.firsts q) is_read.3

  result_is : result first_edition o' q
      ≡ outcome (first_value first_edition (o.firsts q).cell) (second_value first_edition (o.seconds q).cell) seconds
  unfolding result
  result_is =
      (λ t. outcome (first_value first_edition (firsts_same t).cell) (second_value first_edition (slot_is t).cell)
      (map (Option.map (λ (m : Marked). m)) (slot_is t).gathered))
      ∙ ap (outcome (first_value first_edition (o.firsts q).cell) (second_value first_edition (o.seconds q).cell)) (same_marks seconds)

  news_is : news_of first_edition o' q ≡ news (o.firsts q).gathered seconds
  unfolding news_of
  news_is = λ t. news (firsts_same t).gathered (slot_is t).gathered

  pub is_done_is : Done s.racks (step second_cell s.racks (h.objects (h.racks q).finished (lane_at s (rack_at c.racks q))) own_move) q
  is_done_is = rw slot_is (omega (arith, length_snoc (o.seconds q).gathered (o.seconds i).cell, read_before, the_last))

  -- the rack after its last read
  abbrev ended : card.Rack
  ended = after_second_read s c.tables.cells q r

  abbrev last_result : Cell
  last_result = block.result_of g.seconds (own s c.tables.cells q r) (cell_now s c.tables.cells r second_cells lane q).value s.racks

  abbrev last_news : Value
  last_news = block.news g.firsts g.seconds s.racks

  ended_is : ended ≡ block_ended s c.tables.cells q r g
  unfolding after_second_read
  ended_is = rw (eq-eqb (second_read s (place_at s r.step) + 1) s.racks (omega (arith, the_last)))

  result_there : result_at ended lane ≡ last_result
  unfolding block_ended second_gathered
  result_there =
      let four = (small s c h tied q l).lanes_high in
      let long = (rack_shape s c h tied q l).results in
      ap (λ (x : card.Rack). result_at x lane) ended_is
      ∙ get_or-set_same r.results lane last_result no_cell (omega (arith, lane_there))

  news_there : news_at ended lane ≡ last_news
  unfolding block_ended second_gathered
  news_there =
      let four = (small s c h tied q l).lanes_high in
      let long = (rack_shape s c h tied q l).news in
      ap (λ (x : card.Rack). news_at x lane) ended_is
      ∙ get_or-set_same r.news lane last_news no_value (omega (arith, lane_there))

  pub last_result_is : result_at (after_second_read s c.tables.cells q (rack_at c.racks q)) (lane_at s (rack_at c.racks q))
      ≡ marked_cell (result first_edition (step second_cell s.racks (h.objects (h.racks q).finished (lane_at s (rack_at c.racks q))) own_move) q)
  last_result_is =
      result_there
      ∙ result_seen g.seconds seconds seconds_shown (own s c.tables.cells q r)
      (cell_now s c.tables.cells r second_cells lane q).value s.racks all_read
      ∙ (λ t. marked_cell (outcome (own_is t) (second_is t) seconds))
      ∙ ap marked_cell (sym result_is)

  pub last_news_is : news_at (after_second_read s c.tables.cells q (rack_at c.racks q)) (lane_at s (rack_at c.racks q))
      ≡ news_of first_edition (step second_cell s.racks (h.objects (h.racks q).finished (lane_at s (rack_at c.racks q))) own_move) q
  last_news_is =
      news_there
      ∙ news_seen g.firsts g.seconds (o.firsts q).gathered seconds firsts_shown seconds_shown s.racks firsts_long all_read
      ∙ sym news_is

  -- the other lanes' results and news stay
  module _ (other : ℕ) (d : other ≢ lane_at s (rack_at c.racks q)) where
    pub other_result : result_at (after_second_read s c.tables.cells q (rack_at c.racks q)) other ≡ result_at (rack_at c.racks q) other
    unfolding block_ended second_gathered
    other_result =
        ap (λ (x : card.Rack). result_at x other) ended_is ∙ get_or-set_other r.results lane other last_result no_cell d

    pub other_news : news_at (after_second_read s c.tables.cells q (rack_at c.racks q)) other ≡ news_at (rack_at c.racks q) other
    unfolding block_ended second_gathered
    other_news =
        ap (λ (x : card.Rack). news_at x other) ended_is ∙ get_or-set_other r.news lane other last_news no_value d
