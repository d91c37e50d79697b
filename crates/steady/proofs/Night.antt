-- A night of any turns, from a fresh card, is steady after each.
use mathlib.Core.Path.{◌≡◌}
use mathlib.Core.List.{List, [], ◌∷◌}
use mathlib.Core.Bool.{true}
use Prim.Native.Nat.{ℕ}
use Rattle.model.specs.declared.Size.{Size}
use Rattle.model.specs.Size.{size_fits}
use Rattle.model.specs.Table.{Card}
use Rattle.model.specs.Shape.{Shape}
use Rattle.model.specs.Sound.{sound}
use Rattle.model.specs.Turn.{fits, turned}
use Rattle.model.specs.Fresh.{fresh_card}
use Rattle.model.specs.Night.{after}
use Rattle.steady.proofs.Fresh.{fresh_fits, fresh_sound, fresh_shape}
use Rattle.steady.proofs.Turn.{Steady, turn_steady}

module _ (s : Size) where
  pub after_steady : (card : Card) (turns : List (List ℕ)) → Steady s card → Steady s (after s card turns)
  unfolding after
  after_steady card [] h = h
  after_steady card (turn ∷ turns) h = after_steady (turned s card turn).card turns (turn_steady s card turn h)

  module _ (e : size_fits s ≡ true) (turns : List (List ℕ)) where
    night_steady : Steady s (after s (fresh_card s) turns)
    unfolding fresh_card
    night_steady =
        after_steady (fresh_card s) turns (record { shape = fresh_shape s; fit = fresh_fits s e; ok = fresh_sound s e })

    pub night_fits : fits s (after s (fresh_card s) turns).tables ≡ true
    night_fits = night_steady.fit

    pub night_sound : sound s (after s (fresh_card s) turns) ≡ true
    night_sound = night_steady.ok

    pub night_shape : Shape (after s (fresh_card s) turns)
    night_shape = night_steady.shape
