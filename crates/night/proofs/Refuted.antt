-- No useless build and none of the errors that look right meets the demands: each fails on a night that is computed here.
use mathlib.Core.Path.{◌≡◌, refl, ap}
use mathlib.Core.List.{List, [], ◌∷◌, ◌++◌}
use Prim.Native.Nat.{ℕ, ◌≤◌}
use native.Mathlib.Omega.{arith}
use lib.Dec.{lit<, lit≤}
use Rattle.model.specs.Turn.{Outcome}
use Rattle.model.specs.declared.Cue.{Cue}
use Rattle.model.specs.Record.{no_cue}
use Rattle.model.specs.Refusal.{Answer, answer_number, answer_value}
use Rattle.model.specs.Logs.{is_there, queried, log_entry}
use Rattle.model.specs.Table.{log_length}
use Rattle.night.specs.Opened.{rules}
use Rattle.night.specs.Machine.{from, taken_from, cues_of, entries_in}
use Rattle.night.specs.Demands.{Answers, Demand2, Demand3, Demands}
use Rattle.night.specs.Rules.{lane_by, lanes_by, read_by, step_with, refusal_with, turn_with, build_with}
use Rattle.night.specs.Builds.{refuses_all, does_nothing, empty_logs, idle, idling, idles_later, invents_taken, invents_finished, invents_length, invents_entry, hides_taken, hides_finished, hides_length, hides_entry, without_place, last_held, without_news, rising_order, held_again, taking_equal, second_source}
use Rattle.night.specs.Rows.{turn, answer, begun, both_first, p10}
use Rattle.night.specs.Refuting.{alone, round, pair, committed_again, older_value, come_upon, run_before, equal_offers}

-- "One that refuses each turn, or takes it and does nothing: shut out by demand 2, as the refusal table says exactly when."
no_refuses_all : Demand2 refuses_all → ⊥
unfolding rules from
no_refuses_all d =
    let e : ◌≡◌ {A = ℕ} 4 0 = ap (λ (o : Outcome). o.number) (d.turns_exact (alone 1) refl [] (turn 0)) in
    omega arith

no_does_nothing : Demand2 does_nothing → ⊥
unfolding rules from
no_does_nothing d =
    let e : ◌≡◌ {A = ℕ} 0 5 = ap (λ (o : Outcome). o.number) (d.turns_exact (alone 1) refl [] (answer 0 0 0)) in
    omega arith

-- "One with constant empty logs: its logs agree, but demand 3's lower bound on entries fails."
no_empty_logs : Demand3 empty_logs → ⊥
unfolding rules from entries_in
no_empty_logs d =
    let e : 1 ≤ 0 = d.entries_held (alone 2) refl (round ++ round) 0 (lit< tt) (lit≤ tt) in
    omega arith

-- "One that works in round 1 and then idles: the same bound for larger f."
no_idles_later : Demand3 idles_later → ⊥
unfolding rules from entries_in idle idling
no_idles_later d =
    let e : 2 ≤ 1 = d.entries_held (alone 4) refl (round ++ (round ++ (round ++ round))) 0 (lit< tt) (lit≤ tt) in
    omega arith

-- "One that invents taken, finished or length: each equals the count in the history of turns or the list."
no_invents_taken : Demand3 invents_taken → ⊥
unfolding rules from taken_from
no_invents_taken d =
    let six : List (List ℕ) = answer 0 0 0 ∷ answer 0 0 0 ∷ answer 0 0 0 ∷ answer 0 0 0 ∷ answer 0 0 0 ∷ answer 0 0 0 ∷ [] in
    let e : ◌≡◌ {A = ℕ} 0 1 = d.rounds_finished (alone 1) refl six 0 (lit< tt) in
    omega arith

no_invents_finished : Demand3 invents_finished → ⊥
unfolding rules from taken_from
no_invents_finished d =
    let e : ◌≡◌ {A = ℕ} 1 0 = d.rounds_finished (alone 1) refl [] 0 (lit< tt) in
    omega arith

no_invents_length : Demand3 invents_length → ⊥
unfolding rules from cues_of
no_invents_length d =
    let e : ◌≡◌ {A = ℕ} 0 1 = d.numbers_run (alone 1) refl [] 0 0 0 (lit< tt) (lit< tt) (lit< tt) in
    omega arith

-- what a log query says is in the list too: at place 1 stands 0#2
no_invents_entry : Demand3 invents_entry → ⊥
unfolding rules from queried log_entry is_there
no_invents_entry d =
    let e : ◌≡◌ {A = ℕ} 1 2 = ap (λ (x : Answer Cue). (answer_value no_cue x).number) (d.entries_told (alone 2) refl (round ++ round) 0 0 1) in
    omega arith

-- "each equals the count in the history of turns or the list": one that tells less is shut out as well
no_hides_taken : Demand3 hides_taken → ⊥
unfolding rules from taken_from
no_hides_taken d =
    let e : ◌≡◌ {A = ℕ} 1 0 = d.rounds_finished (alone 1) refl round 0 (lit< tt) in
    omega arith

no_hides_finished : Demand3 hides_finished → ⊥
unfolding rules from taken_from
no_hides_finished d =
    let e : ◌≡◌ {A = ℕ} 0 1 = d.rounds_finished (alone 1) refl round 0 (lit< tt) in
    omega arith

no_hides_length : Demand3 hides_length → ⊥
unfolding rules from
no_hides_length d =
    let e : ◌≡◌ {A = ℕ} 0 1 = d.lengths_counted (alone 1) refl round 0 0 (lit< tt) (lit< tt) in
    omega arith

no_hides_entry : Demand3 hides_entry → ⊥
unfolding rules from is_there
no_hides_entry d =
    let e : ◌≡◌ {A = ℕ} 9 0 = ap answer_number (d.entries_told (alone 1) refl round 0 0 0) in
    omega arith

-- "0#1 twice in P10's night": R = 4, and with the turn in it that is refused with 7
no_without_place : Demand3 (build_with without_place) → ⊥
unfolding rules from cues_of lane_by lanes_by read_by step_with refusal_with turn_with
no_without_place d =
    let e : ◌≡◌ {A = ℕ} 1 2 = d.numbers_run p10.size refl committed_again 0 0 1 (lit< tt) (lit< tt) (lit< tt) in
    omega arith

-- rack 1 has missed 0#1 and then leaves 0#2 out too, though it commits it; that this build meets demand 3 is neither proved nor refuted
no_last_held : Demand2 (build_with last_held) → ⊥
unfolding rules from lane_by lanes_by read_by step_with refusal_with turn_with
no_last_held d =
    let e : ◌≡◌ {A = ℕ} 1 2 =
    ap (λ (o : Outcome). log_length (pair 2) o.card.tables.logs 1 0)
    (d.turns_exact (pair 2) refl (both_first ++ (turn 0 ∷ begun 1 0 0 11)) (turn 1))
    in
    omega arith

-- "A rack may adopt the older value and learn of the newer only through news."
no_without_news : Demand3 (build_with without_news) → ⊥
unfolding rules from entries_in lane_by lanes_by read_by step_with refusal_with turn_with
no_without_news d =
    let e : 1 ≤ 0 = d.entries_held (pair 2) refl older_value 0 (lit< tt) (lit≤ tt) in
    omega arith

-- "then a round may commit nothing"
no_rising_order : Demand3 (build_with rising_order) → ⊥
unfolding rules from entries_in lane_by lanes_by read_by step_with refusal_with turn_with
no_rising_order d =
    let e : 1 ≤ 0 = d.entries_held (pair 2) refl come_upon 0 (lit< tt) (lit≤ tt) in
    omega arith

no_held_again : Demand3 (build_with held_again) → ⊥
unfolding rules from entries_in lane_by lanes_by read_by step_with refusal_with turn_with
no_held_again d =
    let e : 2 ≤ 1 = d.entries_held (pair 4) refl run_before 0 (lit< tt) (lit≤ tt) in
    omega arith

-- lane 1 has one value in round 2, and two sources
no_second_source : Demand2 second_source → ⊥
unfolding rules from lane_by lanes_by read_by step_with refusal_with turn_with taking_equal
no_second_source d =
    let night : List (List ℕ) = equal_offers ++ (answer 0 1 0 ∷ answer 1 1 1 ∷ []) in
    let one : Answers second_source (pair 2) night 0 2 1 0 =
    record {
      at =
          record {
            before = equal_offers;
            turn = answer 0 1 0;
            later = answer 1 1 1 ∷ [];
            split = refl;
            is_taken = refl;
            of_rack = refl;
            in_round = refl;
          };
      answers = refl;
      names_lane = refl;
      names_source = refl;
    }
    in
    let other : Answers second_source (pair 2) night 1 2 1 1 =
    record {
      at =
          record {
            before = equal_offers ++ (answer 0 1 0 ∷ []);
            turn = answer 1 1 1;
            later = [];
            split = refl;
            is_taken = refl;
            of_rack = refl;
            in_round = refl;
          };
      answers = refl;
      names_lane = refl;
      names_source = refl;
    }
    in
    let e : ◌≡◌ {A = ℕ} 1 0 = (d.vector_consensus (pair 2) refl night 2 1).one_source 0 1 0 1 one other in
    omega arith

pub record NoneMeets : Type 0 where
  pub refusing : Demands refuses_all → ⊥
  pub doing_nothing : Demands does_nothing → ⊥
  pub with_empty_logs : Demands empty_logs → ⊥
  pub idling_later : Demands idles_later → ⊥
  pub inventing_taken : Demands invents_taken → ⊥
  pub inventing_finished : Demands invents_finished → ⊥
  pub inventing_length : Demands invents_length → ⊥
  pub inventing_entry : Demands invents_entry → ⊥
  pub hiding_taken : Demands hides_taken → ⊥
  pub hiding_finished : Demands hides_finished → ⊥
  pub hiding_length : Demands hides_length → ⊥
  pub hiding_entry : Demands hides_entry → ⊥
  pub without_place_is : Demands (build_with without_place) → ⊥
  pub last_held_is : Demands (build_with last_held) → ⊥
  pub without_news_is : Demands (build_with without_news) → ⊥
  pub rising_order_is : Demands (build_with rising_order) → ⊥
  pub held_again_is : Demands (build_with held_again) → ⊥
  pub second_source_is : Demands second_source → ⊥

pub none_meets : NoneMeets
none_meets =
    record {
      refusing = λ d. no_refuses_all d.demand2;
      doing_nothing = λ d. no_does_nothing d.demand2;
      with_empty_logs = λ d. no_empty_logs d.demand3;
      idling_later = λ d. no_idles_later d.demand3;
      inventing_taken = λ d. no_invents_taken d.demand3;
      inventing_finished = λ d. no_invents_finished d.demand3;
      inventing_length = λ d. no_invents_length d.demand3;
      inventing_entry = λ d. no_invents_entry d.demand3;
      hiding_taken = λ d. no_hides_taken d.demand3;
      hiding_finished = λ d. no_hides_finished d.demand3;
      hiding_length = λ d. no_hides_length d.demand3;
      hiding_entry = λ d. no_hides_entry d.demand3;
      without_place_is = λ d. no_without_place d.demand3;
      last_held_is = λ d. no_last_held d.demand2;
      without_news_is = λ d. no_without_news d.demand3;
      rising_order_is = λ d. no_rising_order d.demand3;
      held_again_is = λ d. no_held_again d.demand3;
      second_source_is = λ d. no_second_source d.demand2;
    }
