-- Every card that is reached from a fresh one is steady, and a view of the history of the turns that it has taken.
use mathlib.Core.Path.{◌≡◌, refl}
use mathlib.Core.Bool.{true, false}
use mathlib.Core.List.{List, [], ◌∷◌}
use Prim.Native.Nat.{ℕ, ◌<◌}
use borrow.Author.Tests.{eqb-true}
use lib.Dec.{eqb}
use Rattle.model.specs.declared.Size.{Size}
use Rattle.model.specs.Size.{size_fits}
use Rattle.model.specs.Table.{Card}
use Rattle.model.specs.Turn.{turned}
use Rattle.model.specs.Fresh.{fresh_card}
use Rattle.model.specs.Night as night
use Rattle.protocol.specs.AdoptCommit.{Marked}
use Rattle.protocol.specs.FirstEdition.{first_edition}
use Rattle.protocol.specs.History.{History, Turn, fresh_history, turn, after, history}
use Rattle.protocol.specs.Clock.{accepted}
use Rattle.protocol.proofs.FirstEdition.{first_lawful}
use Rattle.protocol.proofs.Invariant.{fresh_invariant}
use Rattle.protocol.proofs.Turn.{turn_invariant, after_invariant}
use Rattle.protocol.proofs.Clock.{turn_clocked, fresh_clocked, after_clocked}
use Rattle.steady.proofs.Turn.{Steady, turn_steady}
use Rattle.steady.proofs.Night.{after_steady, night_fits, night_sound, night_shape}
use Rattle.night.specs.Machine.{card, from, reached, taken}
use Rattle.night.specs.View.{turn_of, moves_from}
use Rattle.night.proofs.Demand.Tied.{Tied, Tie}

module _ (s : Size) where
  -- the machine's nights are the model's
  pub from_after : (c : Card) (turns : List (List ℕ)) → from card s c turns ≡ night.after s c turns
  unfolding from night.after
  from_after c [] = refl
  from_after c (t ∷ turns) = from_after (turned s c t).card turns

  pub from_steady : (c : Card) (turns : List (List ℕ)) → Steady s c → Steady s (from card s c turns)
  from_steady c turns h = rw (from_after c turns) (after_steady s c turns h)

  fresh_steady : size_fits s ≡ true → Steady s (fresh_card s)
  unfolding night.after
  fresh_steady e = record { shape = night_shape s e []; fit = night_fits s e []; ok = night_sound s e [] }

  pub reached_steady : size_fits s ≡ true → (turns : List (List ℕ)) → Steady s (reached card s turns)
  reached_steady e turns = from_steady (fresh_card s) turns (fresh_steady e)

  -- a refused turn changes nothing
  pub refused_same : (c : Card) (t : List ℕ) → eqb (turned s c t).number 0 ≡ false → (turned s c t).card ≡ c
  unfolding turned
  refused_same c t e = rw e

  -- the history after a turn that is taken, and after one that is refused, and the rest of the night
  module _ (c : Card) (h : History Marked) (t : List ℕ) (rest : List (List ℕ)) where
    pub after_taken : eqb (turned s c t).number 0 ≡ true
        → after first_edition s.racks s.lanes h (moves_from s c (t ∷ rest))
        ≡ after first_edition s.racks s.lanes (turn first_edition s.racks s.lanes h (turn_of t)) (moves_from s (turned s c t).card rest)
    unfolding moves_from after
    after_taken e = rw e

    pub after_refused : eqb (turned s c t).number 0 ≡ false
        → after first_edition s.racks s.lanes h (moves_from s c (t ∷ rest))
        ≡ after first_edition s.racks s.lanes h (moves_from s (turned s c t).card rest)
    unfolding moves_from
    after_refused e = rw e

  -- the turns that a night takes, and their history
  abbrev pub moves_of : List (List ℕ) → List Turn
  moves_of turns = moves_from s (fresh_card s) turns

  abbrev pub history_of : List (List ℕ) → History Marked
  history_of turns = history first_edition s.racks s.lanes (moves_of turns)

  module _ (tie : Tie s) where
    pub fresh_tied : size_fits s ≡ true → Tied s (fresh_card s) (fresh_history first_edition)
    fresh_tied e =
        record {
          steady = fresh_steady e;
          invariant = fresh_invariant first_edition s.racks s.lanes;
          clocked = fresh_clocked first_edition s.racks s.lanes;
          view = tie.fresh_view;
        }

    module _ (c : Card) (h : History Marked) (tied : Tied s c h) where
      -- a turn that is taken, and one that is refused
      pub taken_tied : (t : List ℕ) → eqb (turned s c t).number 0 ≡ true
          → Tied s (turned s c t).card (turn first_edition s.racks s.lanes h (turn_of t))
      taken_tied t e =
          record {
            steady = turn_steady s c t tied.steady;
            invariant = turn_invariant first_edition first_lawful s.racks s.lanes h (turn_of t) tied.invariant;
            clocked = turn_clocked first_edition s.racks s.lanes h tied.invariant tied.clocked (turn_of t);
            view = (tie.step_view c h t tied.steady tied.invariant tied.clocked tied.view (eqb-true (turned s c t).number 0 e)).1;
          }

      pub refused_tied : (t : List ℕ) → eqb (turned s c t).number 0 ≡ false → Tied s (turned s c t).card h
      refused_tied t e = rw (refused_same c t e) tied

      pub after_tied : (turns : List (List ℕ))
          → Tied s (from card s c turns) (after first_edition s.racks s.lanes h (moves_from s c turns))
      after_tied turns =
          record {
            steady = from_steady c turns tied.steady;
            invariant = after_invariant first_edition first_lawful s.racks s.lanes h (moves_from s c turns) tied.invariant;
            clocked = after_clocked first_edition first_lawful s.racks s.lanes h (moves_from s c turns) tied.invariant tied.clocked;
            view = tie.view_after c h turns tied.steady tied.invariant tied.clocked tied.view;
          }

    module _ (e : size_fits s ≡ true) (turns : List (List ℕ)) where
      pub reached_tied : Tied s (reached card s turns) (history_of turns)
      reached_tied = after_tied (fresh_card s) (fresh_history first_edition) (fresh_tied e) turns

      pub taken_accepted : (q : ℕ) → q < s.racks
          → taken card s q turns
          ≡ accepted first_edition s.racks s.lanes q (fresh_history first_edition) (moves_of turns)
      taken_accepted q l =
          let t = fresh_tied e in
          tie.taken_after (fresh_card s) (fresh_history first_edition) turns t.steady t.invariant t.clocked t.view q l
