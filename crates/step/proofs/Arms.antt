-- What a ready step gives to the function of its kind, and what that function's promise says of the whole step.
use mathlib.Core.Path.{◌≡◌, refl, ap, ◌∙◌}
use mathlib.Core.List.{List}
use Prim.Native.Nat.{ℕ, zero, suc, ◌+◌, ◌≤◌}
use lib.Dec.{eqb}
use Rattle.model.specs.Record.{Cells, Logs}
use Rattle.model.specs.InUse.{tables_of}
use Rattle.laws.proofs.Cases.{either, bool}
use Rattle.model.specs.declared.Size.{Size}
use Rattle.model.specs.declared.Rack.{Rack}
use Rattle.model.specs.declared.Kind.TheVariants.{Offer, Answer, FirstWrite, FirstRead, SecondWrite, SecondRead}
use Rattle.model.specs.Size.{leading}
use Rattle.model.specs.Table.{Tables}
use Rattle.model.specs.Kind.{kind_of, place_at, second_read}
use Rattle.model.specs.Settle.{Settled, settled_rack, settle_lane, settle_lanes}
use Rattle.model.specs.Step.{After, with_cells, second_gathered, block_ended, after_first_read, after_second_read, is_last, answered, settled, second_read_taken, step_by, stepped}
use Rattle.model.specs.Turn.{refusal_of}
use Rattle.kind.proofs.Places.{answer_step, second_read_place}
use Rattle.step.specs.After.{CellsAfter, offering, first_writing, second_writing, DecisionsAfter, answering, second_reading}
use Rattle.step.specs.Ready.{Ready, InRound, AtCells, InBlock, AtDecisions, Decided, Settling}
use Rattle.step.proofs.Places.{round_small}
use Rattle.step.proofs.Ready.{unrefused, named, settles}

-- neither the read nor the settling changes the round
pub read_round : (s : Size) (cells : Cells) (rack : ℕ) (r : Rack) → (after_second_read s cells rack r).round ≡ r.round
unfolding after_second_read block_ended second_gathered
read_round s cells rack r =
    either (bool (eqb (second_read s (place_at s r.step) + 1) s.racks)) (λ y. rw y) (λ n. rw n)

pub settled_round : (s : Size) (rack : ℕ) (logs : Logs) (r : Rack) (lane : ℕ) → (settle_lanes s rack logs r lane).rack.round ≡ r.round
unfolding settle_lanes settle_lane settled_rack
settled_round s rack logs r zero = refl
settled_round s rack logs r (suc lane) = settled_round s rack logs r lane

pub ended_round : (s : Size) (cells : Cells) (logs : Logs) (rack : ℕ) (r q : Rack) {a : Settled} → InRound s r → q ≡ after_second_read s cells rack r
    → a ≡ settle_lanes s rack logs q s.lanes → a.rack.round ≤ 64
ended_round s cells logs rack r q p e f =
    rw (f, settled_round s rack logs q s.lanes, e, read_round s cells rack r) (round_small p)

module _ {s : Size} {cells logs decisions : List ℕ} {rack : ℕ} {r : Rack} (p : Ready s (tables_of cells logs decisions) rack r) where
  pub in_round : InRound s r
  in_round =
      record {
        size = p.tested.exact.size;
        round_low = p.tested.round_low;
        round_high = p.round_high;
        step_below = p.tested.step_below;
      }

  pub at_cells : AtCells s cells rack r
  at_cells = record { round = in_round; exact = p.tested.exact.cells; rack_there = p.tested.rack_there }

  pub in_block : leading ≤ r.step → InBlock s cells rack r
  in_block h = record { at = at_cells; first_there = p.tested.first_there h }

  pub both_decided : leading ≤ r.step → Decided s cells decisions rack r
  both_decided h =
      record { block = in_block h; exact = p.tested.exact.decisions; source_there = p.tested.source_there h }

  module _ (lane source : ℕ) (u : refusal_of s (tables_of cells logs decisions) rack r lane source ≡ 0) where
    pub at_decisions : kind_of s r.step ≡ Answer → AtDecisions s decisions r lane
    at_decisions k =
        record {
          round = in_round;
          exact = p.tested.exact.decisions;
          lane_there = (named s r lane source (unrefused s (tables_of cells logs decisions) rack r lane source u).well_named (answer_step s r.step k)).0;
        }

    pub settling : kind_of s r.step ≡ SecondRead → Settling s cells logs rack r
    settling k =
        record {
          block = in_block (second_read_place s r.step k).later;
          second_read_is = k;
          exact = p.tested.exact.logs;
          room = settles s (tables_of cells logs decisions) rack r (unrefused s (tables_of cells logs decisions) rack r lane source u).has_room;
        }

-- the whole step, from what it does to the tables that it is lent
module _ (s : Size) (t : Tables) (rack : ℕ) (r : Rack) (lane source : ℕ) where
  abbrev with_cells_is : CellsAfter → After
  with_cells_is a = record { tables = with_cells s t rack r a.cells; rack = a.rack }

  abbrev with_decisions : DecisionsAfter → After
  with_decisions a = record { tables = record { cells = t.cells; logs = t.logs; decisions = a.decisions }; rack = a.rack }

  abbrev with_logs : Settled → After
  with_logs a = record { tables = record { cells = t.cells; logs = a.logs; decisions = t.decisions }; rack = a.rack }

  pub offer_taken : {a : CellsAfter} → kind_of s r.step ≡ Offer → a ≡ offering s t.cells rack r
      → with_cells_is a ≡ stepped s t rack r lane source
  unfolding stepped step_by
  offer_taken k e = rw k (ap with_cells_is e)

  pub answer_taken : {a : DecisionsAfter} → kind_of s r.step ≡ Answer → a ≡ answering s t.decisions r lane source
      → with_decisions a ≡ stepped s t rack r lane source
  unfolding stepped step_by answered
  answer_taken k e = rw k (ap with_decisions e)

  pub first_write_taken : {a : CellsAfter} → kind_of s r.step ≡ FirstWrite → a ≡ first_writing s t.cells rack r t.decisions
      → with_cells_is a ≡ stepped s t rack r lane source
  unfolding stepped step_by
  first_write_taken k e = rw k (ap with_cells_is e)

  pub first_read_taken : {q : Rack} → kind_of s r.step ≡ FirstRead → q ≡ after_first_read s t.cells rack r
      → record { tables = t; rack = q } ≡ stepped s t rack r lane source
  unfolding stepped step_by
  first_read_taken k e = rw (k, e)

  pub second_write_taken : {a : CellsAfter} → kind_of s r.step ≡ SecondWrite → a ≡ second_writing s t.cells rack r
      → with_cells_is a ≡ stepped s t rack r lane source
  unfolding stepped step_by
  second_write_taken k e = rw k (ap with_cells_is e)

  settled_or_not : with_logs (second_reading s t.cells rack r t.logs) ≡ second_read_taken s t rack r
  unfolding second_reading second_read_taken settled
  settled_or_not = either (bool (is_last s r)) (λ y. rw y) (λ n. rw n)

  pub second_read_taken_is : {a : Settled} → kind_of s r.step ≡ SecondRead → a ≡ second_reading s t.cells rack r t.logs
      → with_logs a ≡ stepped s t rack r lane source
  unfolding stepped step_by
  second_read_taken_is k e = rw k (ap with_logs e ∙ settled_or_not)
