-- What goes over the cells read is what the definitions say.
use mathlib.Core.Path.{◌≡◌, refl, sym, ap, ◌∙◌}
use mathlib.Core.Bool.{true, false}
use native.Mathlib.Omega.{arith}
use borrow.Author.Tests.{eqb-true, ne_eqb}
use Rattle.std.proofs.Common.{List, [], ◌∷◌, ℕ, ◌≤◌, length, take, Some, None}
use lib.Seq.{take-length}
use Rattle.std.specs.List.{fold, list_all, find}
use Rattle.std.specs.Prelude.{unwrap_or}
use borrow.Author.Rules.{rules}
use Rattle.laws.proofs.Cases.{either, bool}
use Rattle.laws.proofs.Below.{below_all_of}
use Rattle.laws.proofs.Fold.{folded}
use Rattle.model.specs.declared.Value.{Value}
use Rattle.model.specs.declared.Cell.{Cell}
use Rattle.model.specs.Record.{no_cell, is_empty, is_committed}
use Rattle.model.specs.Block.{equals_own, all_equal_own, higher, greatest, second_cell, backs_own, all_back_own, sooner, first_committed, adopted_value, result_of, newer, newest}

full : (c : Cell) → is_committed c ≡ true → is_empty c ≡ false
full c e = ne_eqb c.mark 0 (λ z. absurd (omega (arith, eqb-true c.mark 3 e)))

-- a found cell that is committed stays
kept : (found : Cell) (cells : List Cell) → is_committed found ≡ true → fold sooner found cells ≡ found
unfolding sooner
kept found [] e = refl
kept found (c ∷ cells) e = rw (full found e) (kept found cells e)

-- the first that is committed, or none and an empty cell
found : (cells : List Cell) → fold sooner no_cell cells ≡ unwrap_or (find is_committed cells) no_cell
unfolding sooner
found [] = refl
found (c ∷ cells) = either (bool (is_committed c)) (λ t. rw t (kept c cells t)) (λ f. rw f (found cells))

-- and it is committed
found_is : (cells : List Cell) (c : Cell) → find is_committed cells ≡ Some c → is_committed c ≡ true
found_is [] c e = absurd (search rules)
found_is (x ∷ cells) c e =
    either (bool (is_committed x))
    (λ t. let same : x ≡ c = search (rules, rw t at e) in ap is_committed (sym same) ∙ t)
    (λ f. found_is cells c (rw f at e))

-- what goes over the first cells is what the definitions say of so many
module _ (cells : List Cell) (n : ℕ) (h : n ≤ length cells) where
  all_equal_own_of : (own : Value) → list_all (equals_own own) (take n cells) ≡ all_equal_own cells own n
  all_equal_own_of own = sym (below_all_of (equals_own own) no_cell cells n h)

  all_back_own_of : (own : Value) → list_all (backs_own own) (take n cells) ≡ all_back_own cells own n
  all_back_own_of own = sym (below_all_of (backs_own own) no_cell cells n h)

  greatest_of : (own : Value) → fold higher own (take n cells) ≡ greatest cells own n
  unfolding greatest
  greatest_of own = sym (folded higher own cells no_cell (greatest cells own) refl (λ i. refl) n h)

  newest_of : (before : Cell) → fold newer before (take n cells) ≡ newest cells before n
  unfolding newest
  newest_of before = sym (folded newer before cells no_cell (newest cells before) refl (λ i. refl) n h)

  first_committed_of : fold sooner no_cell (take n cells) ≡ first_committed cells n
  unfolding first_committed
  first_committed_of = sym (folded sooner no_cell cells no_cell (first_committed cells) refl (λ i. refl) n h)

module _ (cells : List Cell) where
  whole : length cells ≤ length cells
  whole = omega arith

  pub all_equal_own_is : (own : Value) → list_all (equals_own own) cells ≡ all_equal_own cells own (length cells)
  all_equal_own_is own = ap (list_all (equals_own own)) (sym (take-length cells)) ∙ all_equal_own_of cells (length cells) whole own

  pub all_back_own_is : (own : Value) → list_all (backs_own own) cells ≡ all_back_own cells own (length cells)
  all_back_own_is own = ap (list_all (backs_own own)) (sym (take-length cells)) ∙ all_back_own_of cells (length cells) whole own

  pub greatest_is : (own : Value) → fold higher own cells ≡ greatest cells own (length cells)
  greatest_is own = ap (fold higher own) (sym (take-length cells)) ∙ greatest_of cells (length cells) whole own

  pub newest_is : (before : Cell) → fold newer before cells ≡ newest cells before (length cells)
  newest_is before = ap (fold newer before) (sym (take-length cells)) ∙ newest_of cells (length cells) whole before

  first_committed_is : first_committed cells (length cells) ≡ unwrap_or (find is_committed cells) no_cell
  first_committed_is = sym (first_committed_of cells (length cells) whole) ∙ ap (fold sooner no_cell) (take-length cells) ∙ found cells

  pub adopted_some : (second : Value) (c : Cell) → find is_committed cells ≡ Some c → adopted_value cells second (length cells) ≡ c.value
  unfolding adopted_value
  adopted_some second c e = rw (first_committed_is, e, full c (found_is cells c e))

  pub adopted_none : (second : Value) → find is_committed cells ≡ None → adopted_value cells second (length cells) ≡ second
  unfolding adopted_value
  adopted_none second e = rw (first_committed_is, e)

-- so a step, which hands on the cells read, has what the definitions say of all eight
module _ (cells : List Cell) (n : ℕ) (h : n ≤ length cells) where
  pub second_cell_read : (own : Value) → second_cell (take n cells) own (length (take n cells)) ≡ second_cell cells own n
  unfolding second_cell
  second_cell_read own =
      rw (← all_equal_own_is (take n cells) own, ← greatest_is (take n cells) own, all_equal_own_of cells n h own, greatest_of cells n h own)

  pub result_read : (own second : Value) → result_of (take n cells) own second (length (take n cells)) ≡ result_of cells own second n
  unfolding result_of adopted_value
  result_read own second =
      rw (← all_back_own_is (take n cells) own, all_back_own_of cells n h own, first_committed_is (take n cells), ← found (take n cells), first_committed_of cells n h)

  pub newest_read : (before : Cell) → newest (take n cells) before (length (take n cells)) ≡ newest cells before n
  newest_read before = sym (newest_is (take n cells) before) ∙ newest_of cells n h before
