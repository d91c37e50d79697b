-- A rack's last read in a lane of a round, anywhere in a night: in the history after the night the rack is done with that object, and what
-- its read gave is the object's result and news.
use mathlib.Core.Path.{◌≡◌, refl, sym, ap, ◌∙◌, subst}
use mathlib.Core.Bool.{true}
use mathlib.Core.List.{List, [], ◌∷◌, ◌++◌}
use Prim.Native.Nat.{ℕ, suc, ◌+◌, ◌≤◌, ◌<◌}
use native.Mathlib.Omega.{arith}
use borrow.Author.Tests.{eq-eqb}
use lib.Dec.{eqb}
use Rattle.laws.proofs.Cases.{either, bool}
use Rattle.model.specs.declared.Size.{Size}
use Rattle.model.specs.declared.Value.{Value}
use Rattle.model.specs.declared.Cell.{Cell}
use Rattle.model.specs.declared.Rack as card
use Rattle.model.specs.declared.Kind.{Kind}
use Rattle.model.specs.declared.Kind.TheVariants.{SecondRead}
use Rattle.model.specs.Size.{size_fits, block_steps}
use Rattle.model.specs.Table.{Card, rack_at, result_at, news_at}
use Rattle.model.specs.Kind.{kind_of, place_at, lane_at, second_read}
use Rattle.model.specs.Step.{after_second_read}
use Rattle.model.specs.Fresh.{fresh_card}
use Rattle.model.specs.Turn.{rack_of, turned}
use Rattle.protocol.specs.AdoptCommit.{Marked}
use Rattle.protocol.specs.Object.{Object, step, Done}
use Rattle.protocol.specs.Edition.{result, news_of}
use Rattle.protocol.specs.FirstEdition.{first_edition, second_cell}
use Rattle.protocol.specs.History.{History, move, turn, after, fresh_history}
use Rattle.protocol.proofs.Put.{put_at_same}
use Rattle.protocol.proofs.FirstEdition.{first_lawful}
use Rattle.protocol.proofs.Turn.{turn_invariant}
use Rattle.model.proofs.Ranges.{by_kind}
use Rattle.night.specs.Machine.{card, from, reached}
use Rattle.night.specs.Demands.{Ends}
use Rattle.night.specs.View.{marked_cell, turn_of, moves_from}
use Rattle.night.proofs.Demand.Tied.{Tied, Tie}
use Rattle.night.proofs.Demand.Reached.{after_taken, after_refused, history_of, fresh_tied, taken_tied, refused_tied}
use Rattle.night.proofs.Demand.Work.{shown, at_work}
use Rattle.night.proofs.Demand.LastRead.{own_move, is_done_is, last_result_is, last_news_is}
use Rattle.protocol.proofs.Lasting.{turn_moves, after_stays}

-- a moment of a night: its card, the history there, and the history that the rest of the night leads to
pub record Moment (s : Size) (c : Card) (rest : List (List ℕ)) (end : History Marked) : Type 0 where
  pub history : History Marked
  pub tied : Tied s c history
  pub leads : after first_edition s.racks s.lanes history (moves_from s c rest) ≡ end

-- one turn earlier
earlier : (s : Size) (c : Card) (rest : List (List ℕ)) (end end' : History Marked) → end' ≡ end → Moment s c rest end → Moment s c rest end'
earlier s c rest end end' e m = record { history = m.history; tied = m.tied; leads = m.leads ∙ sym e }

pub moment : (s : Size) (tie : Tie s) (c : Card) (h : History Marked) → Tied s c h → (before rest : List (List ℕ))
    → Moment s (from card s c before) rest (after first_edition s.racks s.lanes h (moves_from s c (before ++ rest)))
unfolding from
moment s tie c h tied [] rest = record { history = h; tied = tied; leads = refl }
moment s tie c h tied (t ∷ before) rest =
    either (bool (eqb (turned s c t).number 0))
    (λ y.
    earlier s _ rest _ _ (after_taken s c h t (before ++ rest) y)
    (moment s tie (turned s c t).card (turn first_edition s.racks s.lanes h (turn_of t)) (taken_tied s tie c h tied t y) before rest))
    (λ n.
    earlier s _ rest _ _ (after_refused s c h t (before ++ rest) n)
    (moment s tie (turned s c t).card h (refused_tied s tie c h tied t n) before rest))

-- a rack is done with an object, and this is its result and its news
pub record Ended (n : ℕ) (o : Object Marked) (q : ℕ) (x : Cell) (v : Value) : Type 0 where
  pub done : Done n o q
  pub is_result : x ≡ marked_cell (result first_edition o q)
  pub is_news : v ≡ news_of first_edition o q

-- the kind of a step says where it is
abbrev InSeconds : Size → ℕ → Kind → Type 0
InSeconds s step kind = kind ≡ SecondRead → (2 ≤ step) × (s.racks + 2 ≤ place_at s step)

pub in_seconds_is : (s : Size) (step : ℕ) → kind_of s step ≡ SecondRead → (2 ≤ step) × (s.racks + 2 ≤ place_at s step)
in_seconds_is s step =
    by_kind s (InSeconds s step) step
    (λ _ e. no_kind cc) (λ _ e. no_kind cc) (λ _ _ e. no_kind cc) (λ _ _ _ e. no_kind cc) (λ _ _ e. no_kind cc)
    (λ late low e. (late, low))
  where
    no_kind : {G : Type 0} → ◌≡◌ {A = ℕ} 0 1 → G
    no_kind z = absurd (omega arith)

module _ (s : Size) (c : Card) (h : History Marked) (tied : Tied s c h) (q : ℕ) (l : q < s.racks) (t : List ℕ) (of_rack : rack_of t ≡ q)
    (reads : kind_of s (rack_at c.racks q).step ≡ SecondRead)
    (last : suc (second_read s (place_at s (rack_at c.racks q).step)) ≡ s.racks) where
  abbrev r : card.Rack
  r = rack_at c.racks q

  abbrev R : ℕ
  R = (h.racks q).finished

  abbrev lane : ℕ
  lane = lane_at s r

  late : 2 ≤ r.step
  late = (in_seconds_is s r.step reads).0

  end : place_at s r.step + 1 ≡ block_steps s
  unfolding block_steps
  end = omega (arith, last, (in_seconds_is s r.step reads).1)

  abbrev h₁ : History Marked
  h₁ = turn first_edition s.racks s.lanes h (turn_of t)

  -- the object after the turn
  here : h₁.objects R lane ≡ step second_cell s.racks (h.objects R lane) (own_move s c h tied q l late end)
  here =
      let w = at_work s c h tied q l late in
      ap (λ (f : ℕ → ℕ → Object Marked). f R lane)
      (turn_moves first_edition s.racks s.lanes h (turn_of t) q w.0 of_rack l w.1.is
      ∙ ap (λ (x : ℕ). (move first_edition s.racks s.lanes h q x).objects) (sym w.1.in_lane))
      ∙ put_at_same h.objects R lane (step second_cell s.racks (h.objects R lane) (own_move s c h tied q l late end))

  ended_now : Ended s.racks (h₁.objects R lane) q
      (result_at (after_second_read s c.tables.cells q r) lane) (news_at (after_second_read s c.tables.cells q r) lane)
  ended_now =
      rw here
      (record { done = is_done_is s c h tied q l late end; is_result = last_result_is s c h tied q l late end; is_news = last_news_is s c h tied q l late end })

  -- and after the rest of the night
  pub ended_later : (turned s c t).number ≡ 0 → (later : List (List ℕ))
      → Ended s.racks ((after first_edition s.racks s.lanes h (moves_from s c (t ∷ later))).objects (h.racks q).finished (lane_at s (rack_at c.racks q))) q
      (result_at (after_second_read s c.tables.cells q (rack_at c.racks q)) (lane_at s (rack_at c.racks q)))
      (news_at (after_second_read s c.tables.cells q (rack_at c.racks q)) (lane_at s (rack_at c.racks q)))
  ended_later taken later =
      let now = ended_now in
      let inv = turn_invariant first_edition first_lawful s.racks s.lanes h (turn_of t) tied.invariant in
      let stays = after_stays first_edition s.racks s.lanes first_lawful R lane q l h₁ (moves_from s (turned s c t).card later) inv now.done in
      rw (after_taken s c h t later (eq-eqb (turned s c t).number 0 taken))
      (record {
        done = stays.done;
        is_result = now.is_result ∙ ap marked_cell (sym stays.result_stays);
        is_news = now.is_news ∙ sym stays.news_stays;
      })

-- wherever in a night it was
pub ends_done : (s : Size) (tie : Tie s) → size_fits s ≡ true → (turns : List (List ℕ)) (q r lane : ℕ) (x : Cell) (v : Value) → q < s.racks
    → Ends card s turns q (suc r) lane x v → Ended s.racks ((history_of s turns).objects r lane) q x v
ends_done s tie e turns q r lane x v l ends =
    let at = ends.at in
    let c = reached card s at.before in
    let m = moment s tie (fresh_card s) (fresh_history first_edition) (fresh_tied s tie e) at.before (at.turn ∷ at.later) in
    let old = m.history in
    let fin =
    ended_later s c old m.tied q l at.turn at.of_rack ends.reads ends.last at.is_taken at.later
    in
    let whole : after first_edition s.racks s.lanes old (moves_from s c (at.turn ∷ at.later)) ≡ history_of s turns =
    m.leads ∙ ap (history_of s) (sym at.split)
    in
    let in_round : (old.racks q).finished ≡ r = omega (arith, (shown s c old m.tied q l).round, at.in_round) in
    let same : (after first_edition s.racks s.lanes old (moves_from s c (at.turn ∷ at.later))).objects (old.racks q).finished (lane_at s (rack_at c.racks q))
    ≡ (history_of s turns).objects r lane =
    λ i. (whole i).objects (in_round i) (ends.in_lane i)
    in
    let after_read = after_second_read s c.tables.cells q (rack_at c.racks q) in
    record {
      done = subst (λ (o : Object Marked). Done s.racks o q) same fin.done;
      is_result =
          sym ends.gives_result
          ∙ ap (result_at after_read) (sym ends.in_lane)
          ∙ fin.is_result
          ∙ ap (λ (o : Object Marked). marked_cell (result first_edition o q)) same;
      is_news =
          sym ends.gives_news
          ∙ ap (news_at after_read) (sym ends.in_lane)
          ∙ fin.is_news
          ∙ ap (λ (o : Object Marked). news_of first_edition o q) same;
    }
