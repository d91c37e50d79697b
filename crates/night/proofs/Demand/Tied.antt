-- What the tie between card and history says: a turn that the card takes is one that the history accepts, and the card stays a view of it.
use mathlib.Core.Path.{◌≡◌}
use mathlib.Core.Bool.{true}
use mathlib.Core.List.{List}
use Prim.Native.Nat.{ℕ, ◌<◌}
use Rattle.model.specs.declared.Size.{Size}
use Rattle.model.specs.Table.{Card}
use Rattle.model.specs.Turn.{turned}
use Rattle.model.specs.Fresh.{fresh_card}
use Rattle.protocol.specs.AdoptCommit.{Marked}
use Rattle.protocol.specs.FirstEdition.{first_edition}
use Rattle.protocol.specs.History.{History, fresh_history, turn, after}
use Rattle.protocol.specs.Clock.{accepts, accepted}
use Rattle.protocol.proofs.Invariant.{Invariant}
use Rattle.protocol.proofs.Placed.{Clocked}
use Rattle.steady.proofs.Turn.{Steady}
use Rattle.night.specs.Machine.{card, from, taken_from}
use Rattle.night.specs.View.{View, turn_of, moves_from}

-- a card and the history that it is a view of
pub record Tied (s : Size) (c : Card) (h : History Marked) : Type 0 where
  pub steady : Steady s c
  pub invariant : Invariant first_edition s.racks s.lanes h
  pub clocked : Clocked first_edition s.racks s.lanes h
  pub view : View s c h

pub record Tie (s : Size) : Type 0 where
  pub fresh_view : View s (fresh_card s) (fresh_history first_edition)
  pub step_view : (c : Card) (h : History Marked) (t : List ℕ) → Steady s c
      → Invariant first_edition s.racks s.lanes h → Clocked first_edition s.racks s.lanes h → View s c h
      → (turned s c t).number ≡ 0
      → (accepts first_edition s.racks s.lanes h (turn_of t) ≡ true)
      × View s (turned s c t).card (turn first_edition s.racks s.lanes h (turn_of t))
  pub view_after : (c : Card) (h : History Marked) (turns : List (List ℕ)) → Steady s c
      → Invariant first_edition s.racks s.lanes h → Clocked first_edition s.racks s.lanes h → View s c h
      → View s (from card s c turns) (after first_edition s.racks s.lanes h (moves_from s c turns))
  pub taken_after : (c : Card) (h : History Marked) (turns : List (List ℕ)) → Steady s c
      → Invariant first_edition s.racks s.lanes h → Clocked first_edition s.racks s.lanes h → View s c h
      → (q : ℕ) → q < s.racks
      → taken_from card s c q turns ≡ accepted first_edition s.racks s.lanes q h (moves_from s c turns)
