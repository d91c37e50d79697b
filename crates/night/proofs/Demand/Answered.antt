-- A rack's answer, anywhere in a night: in the history after the night it has won the lane that the turn named from the source that it named.
use mathlib.Core.Path.{◌≡◌, sym, ap, ◌∙◌, transport}
use mathlib.Core.Bool.{true}
use mathlib.Core.List.{List, ◌∷◌}
use Prim.Native.Nat.{ℕ, suc, ◌<◌}
use native.Mathlib.Omega.{arith}
use borrow.Author.Tests.{ltb-true, eq-eqb}
use lib.Dec.{ltb}
use Rattle.laws.proofs.Cases.{and_true}
use Rattle.model.specs.declared.Size.{Size}
use Rattle.model.specs.declared.Value.{Value}
use Rattle.model.specs.declared.Cell.{Cell}
use Rattle.model.specs.declared.Rack as card
use Rattle.model.specs.Size.{size_fits}
use Rattle.model.specs.Record.{offered}
use Rattle.model.specs.Table.{Card, offers, read_cell, rack_at}
use Rattle.model.specs.Fresh.{fresh_card}
use Rattle.model.specs.Turn.{rack_of, lane_named, source_named, turned}
use Rattle.protocol.specs.AdoptCommit.{Marked}
use Rattle.protocol.specs.FirstEdition.{first_edition}
use Rattle.protocol.specs.History.{History, answering, fits_answer, turn, after, fresh_history}
use Rattle.protocol.specs.Clock.{accepts_in, accepts}
use Rattle.protocol.proofs.FirstEdition.{first_lawful}
use Rattle.protocol.proofs.Turn.{turn_invariant}
use Rattle.protocol.proofs.Answer.{lane_below, source_below, source_offered}
use Rattle.protocol.proofs.Wins.{Wins, wins_last, answer_wins}
use Rattle.night.specs.Machine.{card, reached}
use Rattle.night.specs.Demands.{Answers, offer_then}
use Rattle.night.specs.View.{turn_of, moves_from}
use Rattle.night.proofs.View.Standing.{is_answering}
use Rattle.night.proofs.Demand.Tied.{Tied, Tie}
use Rattle.night.proofs.Demand.Reached.{after_taken, history_of, fresh_tied}
use Rattle.night.proofs.Demand.Work.{shown, round_left}
use Rattle.night.proofs.Demand.Ended.{moment}

-- a history in which a rack has won a lane of a round from a source, and the offer cell that named its value
pub record Won (s : Size) (h : History Marked) (rack round lane source : ℕ) (offer : Cell) : Type 0 where
  pub r : ℕ
  pub is_round : round ≡ suc r
  pub rack_there : rack < s.racks
  pub round_there : r < s.rounds
  pub lane_there : lane < s.lanes
  pub source_there : source < s.racks
  pub value : Value
  pub is_offer : offer ≡ offered value
  pub wins : Wins h rack r lane source value

module _ (s : Size) (tie : Tie s) (c : Card) (h : History Marked) (tied : Tied s c h) (t : List ℕ) (is_taken : (turned s c t).number ≡ 0)
    (answers : (rack_at c.racks (rack_of t)).step ≡ 1) where
  abbrev q : ℕ
  q = rack_of t

  abbrev a : card.Rack
  a = rack_at c.racks q

  abbrev fin : ℕ
  fin = (h.racks q).finished

  accepted : (ltb q s.racks ≡ true) × (accepts_in first_edition s.racks s.lanes h (turn_of t) (h.racks q).phase ≡ true)
  unfolding accepts
  accepted =
      and_true (ltb q s.racks) _ (tie.step_view c h t tied.steady tied.invariant tied.clocked tied.view is_taken).0

  there : q < s.racks
  there = ltb-true q s.racks accepted.0

  is : (h.racks q).phase ≡ answering
  is = is_answering s h q a (shown s c h tied q there) answers

  fits : fits_answer first_edition s.racks s.lanes h fin (lane_named t) (source_named t) ≡ true
  unfolding accepts_in
  fits = rw is at accepted.1

  current : fin < s.rounds
  current = round_left s c h tied q there (omega (arith, answers))

  pub won_later : (later : List (List ℕ))
      → Won s (after first_edition s.racks s.lanes h (moves_from s c (t ∷ later))) (rack_of t) (rack_at c.racks (rack_of t)).round (lane_named t) (source_named t)
      (read_cell s c.tables.cells offers (rack_at c.racks (rack_of t)).round (lane_named t) (source_named t))
  won_later later =
      let inv = tied.invariant in
      let lane_there = lane_below first_edition s.racks s.lanes h inv q there is (lane_named t) (source_named t) fits in
      let source_there = source_below first_edition s.racks s.lanes h inv q there is (lane_named t) (source_named t) fits in
      let has = source_offered first_edition s.racks s.lanes h inv q there is (lane_named t) (source_named t) fits in
      let round = (shown s c h tied q there).round in
      record {
        r = fin;
        is_round = round;
        rack_there = there;
        round_there = current;
        lane_there = lane_there;
        source_there = source_there;
        value = (h.racks (source_named t)).held fin (lane_named t);
        is_offer =
            ap (λ (x : ℕ). read_cell s c.tables.cells offers x (lane_named t) (source_named t)) round
            ∙ tied.view.offers_shown fin (lane_named t) (source_named t) current lane_there source_there
            ∙ rw has;
        wins =
            rw (after_taken s c h t later (eq-eqb (turned s c t).number 0 is_taken))
            (wins_last first_edition s.racks s.lanes q fin (lane_named t) (source_named t) _ first_lawful
            (turn first_edition s.racks s.lanes h (turn_of t)) (moves_from s (turned s c t).card later)
            (turn_invariant first_edition first_lawful s.racks s.lanes h (turn_of t) inv)
            (answer_wins first_edition s.racks s.lanes h inv (turn_of t) there is fits));
      }

-- wherever in a night it was
pub answers_won : (s : Size) (tie : Tie s) → size_fits s ≡ true → (turns : List (List ℕ)) (rack round lane source : ℕ)
    → (a : Answers card s turns rack round lane source)
    → Won s (history_of s turns) rack round lane source (offer_then card s turns a)
answers_won s tie e turns rack round lane source a =
    let at = a.at in
    let c = reached card s at.before in
    let m = moment s tie (fresh_card s) (fresh_history first_edition) (fresh_tied s tie e) at.before (at.turn ∷ at.later) in
    let whole : after first_edition s.racks s.lanes m.history (moves_from s c (at.turn ∷ at.later)) ≡ history_of s turns =
    m.leads ∙ ap (history_of s) (sym at.split)
    in
    let in_round : (rack_at c.racks (rack_of at.turn)).round ≡ round = ap (λ (x : ℕ). (rack_at c.racks x).round) at.of_rack ∙ at.in_round in
    let answers : (rack_at c.racks (rack_of at.turn)).step ≡ 1 = ap (λ (x : ℕ). (rack_at c.racks x).step) at.of_rack ∙ a.answers in
    transport
    (λ i. Won s (whole i) (at.of_rack i) (in_round i) (a.names_lane i) (a.names_source i)
    (read_cell s c.tables.cells offers (in_round i) (a.names_lane i) (a.names_source i)))
    (won_later s tie c m.history m.tied at.turn at.is_taken answers at.later)
