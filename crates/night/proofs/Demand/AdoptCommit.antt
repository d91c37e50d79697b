-- The paper's four adopt-commit properties of the cells of a round and lane: those of the history's object, whose proposals the first cells
-- show, and whose results are what the racks' last reads gave.
use mathlib.Core.Path.{◌≡◌, refl, sym, ap, ◌∙◌, subst}
use mathlib.Core.Logic.{◌⊎◌}
use mathlib.Core.Bool.{true}
use mathlib.Core.Option.{some}
use mathlib.Core.List.{List}
use Prim.Native.Nat.{ℕ, suc, ◌-◌, ◌≤◌, ◌<◌}
use native.Mathlib.Omega.{arith}
use Rattle.laws.proofs.Cases.{either}
use Rattle.model.specs.declared.Size.{Size}
use Rattle.model.specs.declared.Value.{Value}
use Rattle.model.specs.declared.Cell.{Cell}
use Rattle.model.specs.Size.{size_fits, block_steps}
use Rattle.model.specs.Record.{no_cell, offered, is_committed}
use Rattle.protocol.specs.AdoptCommit as object
use Rattle.protocol.specs.Object.{Object, Proposed, Done}
use Rattle.protocol.specs.Edition.{result, news_of}
use Rattle.protocol.specs.FirstEdition.{first_edition}
use Rattle.protocol.proofs.FirstEdition.{first_lawful}
use Rattle.protocol.proofs.Theorem.{theorem}
use Rattle.night.specs.Machine.{card}
use Rattle.night.specs.Demands.{Ends, steps_taken, first_cell, AdoptCommit}
use Rattle.night.specs.View.{first_of}
use Rattle.night.proofs.Demand.Tied.{Tie}
use Rattle.night.proofs.Demand.Reached.{moves_of, history_of, reached_tied}
use Rattle.night.proofs.Demand.Marks.{marked_committed, marked_value}
use Rattle.night.proofs.Demand.Ended.{Ended, ends_done}
use Rattle.night.proofs.Demand.Found.{found}

-- a first cell that shows a value is not empty, and shows no other
only_value : (w v : Value) → (offered w ≡ no_cell) ⊎ (offered w ≡ offered v) → w ≡ v
only_value w v e =
    either e
    (λ f. let z = ap (λ (c : Cell). c.mark) f in absurd (omega arith))
    (λ f. ap (λ (c : Cell). c.value) f)

module _ (s : Size) (tie : Tie s) (e : size_fits s ≡ true) (turns : List (List ℕ)) (r lane : ℕ) (rb : r < s.rounds) (lb : lane < s.lanes) where
  abbrev o : Object object.Marked
  o = (history_of s turns).objects r lane

  laws : object.AdoptCommit s.racks (Proposed s.racks o) (Done s.racks o) (result first_edition o) (news_of first_edition o)
  laws = (theorem first_edition first_lawful s.racks s.lanes (moves_of s turns)).objects r lane

  -- the first cells show the proposals
  proposal_shown : (q : ℕ) → q < s.racks → (v : Value) → (o.firsts q).cell ≡ some v → first_cell card s turns q (suc r) lane ≡ offered v
  proposal_shown q l v f = (reached_tied s tie e turns).view.firsts_shown r lane q rb lb l ∙ ap first_of f

  module _ (q : ℕ) (l : q < s.racks) (x : Cell) (v : Value) (ends : Ends card s turns q (suc r) lane x v) where
    ended : Ended s.racks o q x v
    ended = ends_done s tie e turns q r lane x v l ends

    value_is : x.value ≡ (result first_edition o q).value
    value_is = ap (λ (c : Cell). c.value) ended.is_result ∙ marked_value (result first_edition o q)

    committed_is : is_committed x ≡ (result first_edition o q).committed
    committed_is = ap is_committed ended.is_result ∙ marked_committed (result first_edition o q)

  progress : (q : ℕ) → q < s.racks → steps_taken card s turns q (suc r) lane ≡ block_steps s
      → (x : Cell) × (v : Value) × Ends card s turns q (suc r) lane x v
  progress q l steps =
      let f = found s tie e turns q r lane l lb steps in
      let is = f.is_last in (
        _,
        _,
        record {
          at =
              record {
                before = f.before;
                turn = f.turn;
                later = f.later;
                split = f.split;
                is_taken = is.is_taken;
                of_rack = is.of_rack;
                in_round = is.in_round;
              };
          in_lane = is.in_lane;
          reads = is.reads;
          last = is.last;
          gives_result = refl;
          gives_news = refl;
        },
      )

  in_round : AdoptCommit card s turns (suc r) lane
  in_round =
      record {
        validity = λ q x v l ends.
            let p = laws.validity q l (ended q l x v ends).done in
            (p.0, p.1, proposal_shown p.0 p.1 _ p.2 ∙ ap offered (sym (value_is q l x v ends)));
        agreement = λ p q x x' v v' lp lq ends ends' committed.
            value_is q lq x' v' ends'
            ∙ laws.agreement p q lp lq (ended p lp x v ends).done (ended q lq x' v' ends').done (sym (committed_is p lp x v ends) ∙ committed)
            ∙ sym (value_is p lp x v ends);
        commitment = λ v all q x news l ends.
            committed_is q l x news ends
            ∙ (laws.commitment q l (ended q l x news ends).done v
            (λ w p. only_value w v (rw (proposal_shown p.0 p.1 w p.2) at (all p.0 p.1)))
            ).0;
        progress = progress;
      }

pub adopt_commit : (s : Size) → Tie s → size_fits s ≡ true → (turns : List (List ℕ)) (round lane : ℕ) → 1 ≤ round → round ≤ s.rounds → lane < s.lanes
    → AdoptCommit card s turns round lane
adopt_commit s tie e turns round lane low high lb =
    subst (λ (x : ℕ). AdoptCommit card s turns x lane) (omega arith) (in_round s tie e turns (round - 1) lane (omega arith) lb)
