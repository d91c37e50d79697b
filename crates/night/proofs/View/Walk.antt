-- A rule that is counted over the cells of an array, one after the other, is the same rule walked along the list that the array shows.
use mathlib.Core.Path.{◌≡◌, refl, ap}
use mathlib.Core.Option.{Option, none}
use mathlib.Core.List.{List, [], ◌∷◌}
use Prim.Native.Nat.{ℕ, zero, suc, ◌≤◌, ◌<◌}
use native.Mathlib.Omega.{arith}
use lib.ListN.{length, get_or}
use Rattle.model.specs.declared.Cell.{Cell}
use Rattle.model.specs.Record.{no_cell}

-- the cells show the list, as far as it goes
pub record Shows {X : Type 0} (show : Option X → Cell) (cells : List Cell) (list : List (Option X)) : Type 0 where
  pub room : length list ≤ length cells
  pub each : (i : ℕ) → i < length list → get_or cells i no_cell ≡ show (get_or list i none)

module _ {B : Type 0} (rule : B → Cell → B) where
  -- the rule at the first cells, from a start
  unfoldable pub counted : List Cell → B → ℕ → B
  counted cells b zero = b
  counted cells b (suc n) = rule (counted cells b n) (get_or cells n no_cell)

  -- the first cell first
  first_first : (x : Cell) (cells : List Cell) (b : B) (n : ℕ) → counted (x ∷ cells) b (suc n) ≡ counted cells (rule b x) n
  unfolding counted
  first_first x cells b zero = refl
  first_first x cells b (suc n) = ap (λ (a : B). rule a (get_or cells n no_cell)) (first_first x cells b n)

  -- what each step keeps of the list that is left holds at its end
  module _ {X : Type 0} (show : Option X → Cell) (Kept : B → List (Option X) → Type 0)
      (step : (b : B) (o : Option X) (rest : List (Option X)) → Kept b (o ∷ rest) → Kept (rule b (show o)) rest) where
    pub walk : (cells : List Cell) (list : List (Option X)) (b : B) → Shows show cells list → Kept b list → Kept (counted cells b (length list)) []
    unfolding counted
    walk cells [] b h k = k
    walk [] (o ∷ rest) b h k = let l = h.room in absurd (omega arith)
    walk (x ∷ cells) (o ∷ rest) b h k =
        let l = h.room in
        let later : Shows show cells rest =
        record { room = omega arith; each = λ i g. h.each (suc i) (omega arith) }
        in
        rw (first_first x cells b (length rest), h.each 0 (omega arith)) (walk cells rest (rule b (show o)) later (step b o rest k))
