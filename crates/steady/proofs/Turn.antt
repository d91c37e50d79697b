-- A turn of any bytes, taken or refused, keeps a card steady: its lengths exact, sound, and of the shape that the types say.
use mathlib.Core.Path.{◌≡◌}
use mathlib.Core.List.{List}
use mathlib.Core.Bool.{true, not}
use Prim.Native.Nat.{ℕ}
use borrow.Author.Tests.{eqb-true}
use lib.Dec.{eqb}
use Rattle.laws.proofs.Cases.{either, bool}
use Rattle.model.specs.declared.Size.{Size}
use Rattle.model.specs.Table.{Card}
use Rattle.model.specs.Shape.{Shape}
use Rattle.model.specs.Step.{step}
use Rattle.model.specs.Sound.{sound}
use Rattle.model.specs.Turn.{fits, rack_of, lane_named, source_named, bad_record, refusal, turned}
use Rattle.model.proofs.Turns.{good}
use Rattle.steady.proofs.Refusals.{passed}
use Rattle.steady.proofs.Step.{step_fits, step_sound, step_shape}

pub record Steady (s : Size) (card : Card) : Type 0 where
  pub shape : Shape card
  pub fit : fits s card.tables ≡ true
  pub ok : sound s card ≡ true

module _ (s : Size) where
  module _ (card : Card) (turn : List ℕ) where
    abbrev moved : Card
    moved = step s card (rack_of turn) (lane_named turn) (source_named turn)

    -- a turn that is not refused is a step that no refusal forbids
    step_steady : refusal s card turn ≡ 0 → Steady s card → Steady s moved
    unfolding refusal
    step_steady e h =
        let exact = passed (not (fits s card.tables)) 0 _ e in
        let tables-ok = passed (not (sound s card)) 1 _ exact.1 in
        let good_record = passed (bad_record s turn) 2 _ tables-ok.1 in
        let there = (good s turn good_record.0).there in
        record {
          shape = step_shape s card (rack_of turn) (lane_named turn) (source_named turn) h.shape h.fit h.ok there good_record.1;
          fit = step_fits s card (rack_of turn) (lane_named turn) (source_named turn) h.shape h.fit h.ok there good_record.1;
          ok = step_sound s card (rack_of turn) (lane_named turn) (source_named turn) h.shape h.fit h.ok there good_record.1;
        }

    pub turn_steady : Steady s card → Steady s (turned s card turn).card
    unfolding turned
    turn_steady h =
        either (bool (eqb (refusal s card turn) 0))
        (λ e. rw e (step_steady (eqb-true (refusal s card turn) 0 e) h))
        (λ e. rw e h)

    module _ (shape : Shape card) (fit : fits s card.tables ≡ true) (ok : sound s card ≡ true) where
      whole : Steady s (turned s card turn).card
      whole = turn_steady (record { shape = shape; fit = fit; ok = ok })

      pub turn_fits : fits s (turned s card turn).card.tables ≡ true
      turn_fits = whole.fit

      pub turn_sound : sound s (turned s card turn).card ≡ true
      turn_sound = whole.ok

      pub turn_shape : Shape (turned s card turn).card
      turn_shape = whole.shape
