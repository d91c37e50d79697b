-- A machine that turns as another does on every card that the other comes to comes to the same cards, and takes as many turns.
use mathlib.Core.Path.{◌≡◌, refl, ap, ◌∙◌}
use mathlib.Core.List.{List, [], ◌∷◌}
use Prim.Native.Nat.{ℕ}
use Rattle.model.specs.declared.Size.{Size}
use Rattle.model.specs.Table.{Card}
use Rattle.model.specs.Turn.{Outcome}
use Rattle.night.specs.Machine.{Machine, from, taken_from}

module _ (M N : Machine) (s : Size) where
  abbrev pub Alike : Card → Type 0
  Alike c = (turns : List (List ℕ)) (turn : List ℕ) → M.turn s (from N s c turns) turn ≡ N.turn s (from N s c turns) turn

  -- from the card that a first turn leaves
  later : (c : Card) (turn : List ℕ) → Alike c → Alike (N.turn s c turn).card
  unfolding from
  later c turn a turns = a (turn ∷ turns)

  pub same_from : (c : Card) → Alike c → (turns : List (List ℕ)) → from M s c turns ≡ from N s c turns
  unfolding from
  same_from c a [] = refl
  same_from c a (turn ∷ turns) =
      ap (λ (o : Outcome). from M s o.card turns) (a [] turn) ∙ same_from (N.turn s c turn).card (later c turn a) turns

  pub same_taken : (c : Card) → Alike c → (rack : ℕ) (turns : List (List ℕ)) → taken_from M s c rack turns ≡ taken_from N s c rack turns
  unfolding from taken_from
  same_taken c a rack [] = refl
  same_taken c a rack (turn ∷ turns) =
      rw (a [] turn, same_taken (N.turn s c turn).card (later c turn a) rack turns)
