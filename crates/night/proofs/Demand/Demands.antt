-- The card of document 01 meets the client's demands 2 and 3, and refusals 2 and 8 never come in a night from a fresh card.
use mathlib.Core.Path.{◌≡◌, refl}
use mathlib.Core.Logic.{◌≢◌}
use mathlib.Core.Bool.{true}
use mathlib.Core.List.{List}
use Prim.Native.Nat.{ℕ, ◌≤◌, ◌<◌}
use Rattle.model.specs.declared.Size.{Size}
use Rattle.model.specs.Size.{size_fits}
use Rattle.model.specs.Turn.{turned}
use Rattle.night.specs.Machine.{card, reached}
use Rattle.night.specs.Demands.{Demand2, Demands}
use Rattle.night.proofs.View.Fresh.{fresh_view}
use Rattle.night.proofs.View.Turn.{turn_accepted, turn_view}
use Rattle.night.proofs.View.Night.{view_after, taken_after}
use Rattle.night.proofs.Demand.Tied.{Tie}
use Rattle.night.proofs.Demand.Reached.{reached_steady}
use Rattle.night.proofs.Demand.Admitted.{reply_admitted}
use Rattle.night.proofs.Demand.AdoptCommit.{adopt_commit}
use Rattle.night.proofs.Demand.VectorConsensus.{vector_consensus}
use Rattle.night.proofs.Demand.DemandThree.{demand3, log_short}
use Rattle.night.proofs.Demand.Unrefused as unrefused

pub tie : (s : Size) → size_fits s ≡ true → Tie s
tie s e =
    record {
      fresh_view = fresh_view s e;
      step_view = λ c h t steady inv clocked v k. (turn_accepted s c h steady inv clocked v t k, turn_view s c h steady inv clocked v t k);
      view_after = view_after s;
      taken_after = taken_after s;
    }

demand2 : Demand2 card
demand2 =
    record {
      starts_fresh = λ s e. refl;
      turns_exact = λ s e turns t. refl;
      adopt_commit = λ s e. adopt_commit s (tie s e) e;
      admitted = λ s e turns rack lane source l current answer.
          reply_admitted s (reached card s turns) (reached_steady s e turns) rack lane source l current answer;
      vector_consensus = λ s e. vector_consensus s (tie s e) e;
    }

pub demands : Demands card
demands = record { demand2 = demand2; demand3 = demand3 tie }

-- refusal 2, and refusal 8
pub never_unsound : (s : Size) → size_fits s ≡ true → (turns : List (List ℕ)) (t : List ℕ) → (turned s (reached card s turns) t).number ≢ 2
never_unsound s e turns t = unrefused.never_unsound s e turns t

pub never_overfull : (s : Size) → size_fits s ≡ true → (turns : List (List ℕ)) (t : List ℕ) → (turned s (reached card s turns) t).number ≢ 8
never_overfull s e turns t = unrefused.never_overfull s e turns t (tie s e)

-- no log is longer than its rack's finished rounds
pub log_within : (s : Size) → size_fits s ≡ true → (turns : List (List ℕ)) (rack lane : ℕ) → rack < s.racks → lane < s.lanes
    → card.length s (reached card s turns) rack lane ≤ card.finished s (reached card s turns) rack
log_within s e = log_short s (tie s e) e
