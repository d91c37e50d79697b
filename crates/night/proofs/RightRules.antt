-- With the rules of document 01 a build that leaves rules open is the card, on every night: an error differs from the card in its one rule.
use mathlib.Core.Path.{◌≡◌, refl, sym, ap, ◌∙◌}
use mathlib.Core.List.{List}
use mathlib.Core.Bool.{true, cond}
use Prim.Native.Nat.{ℕ, zero, suc}
use borrow.Author.Tests.{eqb-true}
use lib.Dec.{eqb}
use lib.ListN.{set}
use Rattle.laws.proofs.Cases.{either, bool}
use Rattle.model.specs.declared.Size.{Size}
use Rattle.model.specs.declared.Rack.{Rack}
use Rattle.model.specs.declared.Kind.{Kind}
use Rattle.model.specs.declared.Kind.TheVariants.{Offer, Answer, FirstWrite, FirstRead, SecondWrite, SecondRead}
use Rattle.model.specs.Size.{size_fits}
use Rattle.model.specs.Record.{Logs}
use Rattle.model.specs.Table.{Tables, Card, rack_at}
use Rattle.model.specs.Kind.{kind_of}
use Rattle.model.specs.Settle.{append_missed, append_committed, next_held, settled_rack, lane_log, Settled, settle_lane, settle_lanes}
use Rattle.model.specs.Step.{After, proposal, first_written, after_first_read, second_written, second_gathered, block_ended, after_second_read, settled, second_read_taken, step_by, stepped, step}
use Rattle.model.specs.Turn.{Outcome, bad_record, rack_of, lane_named, source_named, refusal_of, turned}
use Rattle.model.specs.Fresh.{fresh_card}
use Rattle.model.proofs.Turns.{good}
use Rattle.night.specs.Machine.{card, reached}
use Rattle.night.specs.Rules.{rules01, lane_by, lanes_by, read_by, step_with, refusal_with, turn_with, build_with}
use Rattle.night.proofs.Alike.{same_from}
use Rattle.night.proofs.Demand.Reached.{history_of, reached_steady, reached_tied}
use Rattle.night.proofs.Demand.Admitted.{steady_number}
use Rattle.night.proofs.Demand.Room.{not_overfull}
use Rattle.night.proofs.Demand.Demands.{tie}

module _ (s : Size) (rack : ℕ) where
  lane_right : (logs : Logs) (r : Rack) (lane : ℕ) → lane_by rules01 s rack logs r lane ≡ settle_lane s rack logs r lane
  unfolding lane_by settle_lane lane_log append_missed append_committed settled_rack next_held
  lane_right logs r lane = refl

  lanes_right : (logs : Logs) (r : Rack) (count : ℕ) → lanes_by rules01 s rack logs r count ≡ settle_lanes s rack logs r count
  unfolding lanes_by settle_lanes
  lanes_right logs r zero = refl
  lanes_right logs r (suc lane) =
      ap (λ (d : Settled). lane_by rules01 s rack d.logs d.rack lane) (lanes_right logs r lane)
      ∙ (lane_right (settle_lanes s rack logs r lane).logs (settle_lanes s rack logs r lane).rack lane)

  steps_right : (t : Tables) (r : Rack) (kind : Kind) (m q : ℕ) → step_with rules01 s rack t r kind m q ≡ step_by s t rack r kind m q
  unfolding step_with step_by first_written proposal after_first_read second_written second_read_taken settled read_by after_second_read second_gathered block_ended
  steps_right t r Offer m q = refl
  steps_right t r Answer m q = refl
  steps_right t r FirstWrite m q = refl
  steps_right t r FirstRead m q = refl
  steps_right t r SecondWrite m q = refl
  steps_right t r SecondRead m q = rw (lanes_right t.logs (after_second_read s t.cells rack r) s.lanes)

-- a turn's outcome, by its number
outcome_by : (number : ℕ) (before after : Card)
    → ◌≡◌ {A = Outcome} (cond (eqb number 0) (record { number = 0; card = after }) (record { number = number; card = before }))
    (record { number = number; card = cond (eqb number 0) after before })
outcome_by number before after =
    either (bool (eqb number 0))
    (λ y. rw y (λ i. record { number = sym (eqb-true number 0 y) i; card = after }))
    (λ n. rw n)

module _ (s : Size) (e : size_fits s ≡ true) (turns : List (List ℕ)) (turn : List ℕ) where
  abbrev C : Card
  C = reached card s turns

  abbrev rack : ℕ
  rack = rack_of turn

  abbrev r : Rack
  r = rack_at C.racks rack

  abbrev number : ℕ
  number = cond (bad_record s turn) 3 (refusal_with rules01 s rack C.tables r (lane_named turn) (source_named turn))

  -- 1, 2 and 8, for which such a build does not look, never come
  number_right : (turned s C turn).number ≡ number
  unfolding refusal_with refusal_of
  number_right =
      steady_number s C (reached_steady s e turns) turn
      ∙ either (bool (bad_record s turn))
      (λ b. rw b)
      (λ g. rw (g, not_overfull s C (history_of s turns) (reached_tied s (tie s e) e turns) rack (good s turn g).there))

  abbrev card_after : After → Card
  card_after a = record { tables = a.tables; racks = set C.racks rack a.rack }

  abbrev after : Card
  after = card_after (step_with rules01 s rack C.tables r (kind_of s r.step) (lane_named turn) (source_named turn))

  step_right : after ≡ step s C rack (lane_named turn) (source_named turn)
  unfolding step stepped
  step_right = ap card_after (steps_right s rack C.tables r (kind_of s r.step) (lane_named turn) (source_named turn))

  -- refusals too, not the steps alone
  pub turns_right : turn_with rules01 s (reached card s turns) turn ≡ turned s (reached card s turns) turn
  unfolding turn_with turned
  turns_right =
      outcome_by number C after
      ∙ (λ i. let told = sym number_right i in record { number = told; card = cond (eqb told 0) (step_right i) C })

pub reached_right : (s : Size) → size_fits s ≡ true → (turns : List (List ℕ)) → reached (build_with rules01) s turns ≡ reached card s turns
reached_right s e = same_from (build_with rules01) card s (fresh_card s) (turns_right s e)
