-- K-vector consensus of the answers that a night takes: each is won in the history after the night, which never forgets.
use mathlib.Core.Path.{◌≡◌, sym, ap, ◌∙◌}
use mathlib.Core.Bool.{true}
use mathlib.Core.List.{List}
use Prim.Native.Nat.{ℕ, ◌≤◌}
use native.Mathlib.Omega.{arith}
use Rattle.model.specs.declared.Size.{Size}
use Rattle.model.specs.Size.{size_fits}
use Rattle.model.specs.Record.{is_empty, offered}
use Rattle.model.specs.Table.{offers, read_cell, decision_at}
use Rattle.protocol.specs.FirstEdition.{first_edition, second_cell}
use Rattle.protocol.proofs.Steps.{first_written_is}
use Rattle.protocol.proofs.Wins.{wins_proposes}
use Rattle.night.specs.Machine.{card, reached}
use Rattle.night.specs.Demands.{steps_taken, first_cell, Answers, offer_then, VectorConsensus}
use Rattle.night.specs.View.{first_of, source_of}
use Rattle.night.proofs.Demand.Tied.{Tie}
use Rattle.night.proofs.Demand.Reached.{history_of, reached_tied}
use Rattle.night.proofs.Demand.Found.{steps_object}
use Rattle.night.proofs.Demand.Answered.{Won, answers_won}

module _ (s : Size) (tie : Tie s) (e : size_fits s ≡ true) (turns : List (List ℕ)) (round lane : ℕ) where
  won : (rack source : ℕ) (a : Answers card s turns rack round lane source)
      → Won s (history_of s turns) rack round lane source (offer_then card s turns a)
  won rack source a = answers_won s tie e turns rack round lane source a

  value_stays : (rack source : ℕ) (a : Answers card s turns rack round lane source)
      → read_cell s (reached card s turns).tables.cells offers round lane source ≡ offer_then card s turns a
  value_stays rack source a =
      let w = won rack source a in
      ap (λ (x : ℕ). read_cell s (reached card s turns).tables.cells offers x lane source) w.is_round
      ∙ (reached_tied s tie e turns).view.offers_shown w.r lane source w.round_there w.lane_there w.source_there
      ∙ rw w.wins.has_offered_is (ap offered w.wins.value)
      ∙ sym w.is_offer

  one_lane : (rack lane' source source' : ℕ) → Answers card s turns rack round lane source → Answers card s turns rack round lane' source'
      → lane' ≡ lane
  one_lane rack lane' source source' a b =
      let w = won rack source a in
      let w' = answers_won s tie e turns rack round lane' source' b in
      let same : w'.r ≡ w.r = omega (arith, w.is_round, w'.is_round) in
      sym w'.wins.first_lane ∙ ap ((history_of s turns).racks rack).first same ∙ w.wins.first_lane

  decided : (rack source : ℕ) → Answers card s turns rack round lane source
      → decision_at s (reached card s turns).tables.decisions round lane ≡ source
  decided rack source a =
      let w = won rack source a in
      ap (λ (x : ℕ). decision_at s (reached card s turns).tables.decisions x lane) w.is_round
      ∙ (reached_tied s tie e turns).view.decisions_shown w.r lane w.round_there w.lane_there
      ∙ ap source_of w.wins.is_decided

  one_source : (p q source source' : ℕ) → Answers card s turns p round lane source → Answers card s turns q round lane source' → source' ≡ source
  one_source p q source source' a b = sym (decided q source' b) ∙ decided p source a

  one_value : (p q source source' : ℕ) (a : Answers card s turns p round lane source) (b : Answers card s turns q round lane source')
      → offer_then card s turns b ≡ offer_then card s turns a
  one_value p q source source' a b =
      sym (value_stays q source' b)
      ∙ ap (λ (x : ℕ). read_cell s (reached card s turns).tables.cells offers round lane x) (one_source p q source source' a b)
      ∙ value_stays p source a

  -- what a rack's own answer found is what it proposes
  own_proposed : (rack source : ℕ) (a : Answers card s turns rack round lane source) → 1 ≤ steps_taken card s turns rack round lane
      → first_cell card s turns rack round lane ≡ offer_then card s turns a
  own_proposed rack source a begun =
      let w = won rack source a in
      let tied = reached_tied s tie e turns in
      let o = (history_of s turns).objects w.r lane in
      let steps = ap (λ (x : ℕ). steps_taken card s turns rack x lane) w.is_round ∙ steps_object s tie e turns rack w.r lane w.rack_there w.lane_there in
      let cell = first_written_is second_cell s.racks o (tied.invariant.consistent w.r lane) rack (omega (arith, steps)) in
      ap (λ (x : ℕ). first_cell card s turns rack x lane) w.is_round
      ∙ tied.view.firsts_shown w.r lane rack w.round_there w.lane_there w.rack_there
      ∙ ap first_of cell.1
      ∙ ap offered (wins_proposes first_edition s.racks s.lanes rack w.r lane source w.value (history_of s turns) tied.invariant w.wins cell.0 cell.1)
      ∙ sym w.is_offer

  pub vector_consensus : VectorConsensus card s turns round lane
  vector_consensus =
      record {
        one_lane = one_lane;
        was_offered = λ rack source a. ap is_empty (won rack source a).is_offer;
        value_stays = value_stays;
        proposed = λ p q source source' a b begun. own_proposed q source' b begun ∙ one_value p q source source' a b;
        one_value = one_value;
        decided = decided;
        one_source = one_source;
      }
