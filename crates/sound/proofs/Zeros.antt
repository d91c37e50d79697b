-- What is zeros of a rack: a fold that tests each of eight cells, and two tests at every number below a bound.
use mathlib.Core.Path.{◌≡◌, refl, ap, ◌∙◌}
use mathlib.Core.Bool.{Bool, true, false, ◌&&◌}
use mathlib.Core.List.{List}
use Prim.Native.Nat.{ℕ, zero, suc}
use native.Mathlib.Omega.{arith}
use lib.ListN.{length, get_or}
use lib.Seq.{take_all}
use Rattle.std.specs.List.{fold}
use Rattle.laws.specs.Below.{below}
use Rattle.laws.proofs.Fold.{folded}
use Rattle.model.specs.declared.Cell.{Cell}
use Rattle.model.specs.Record.{no_cell, same_cell}

swap : (x y u v : Bool) → ((x && y) && (u && v)) ≡ ((x && u) && (y && v))
swap false y u v = refl
swap true false false v = refl
swap true false true v = refl
swap true true u v = refl

both : (a b : ℕ → Bool) (n : ℕ) → (below n a && below n b) ≡ below n (λ i. a i && b i)
both a b zero = refl
both a b (suc n) = swap (below n a) (a n) (below n b) (b n) ∙ ap (λ t. t && (a n && b n)) (both a b n)

-- the test of each cell, as a fold
all_zeros : (cells : List Cell) → length cells ≡ 8 → below 8 (λ i. same_cell (get_or cells i no_cell) no_cell) ≡ fold (λ zeros c. zeros && same_cell c no_cell) true cells
all_zeros cells h =
    folded (λ zeros c. zeros && same_cell c no_cell) true cells no_cell (λ n. below n (λ i. same_cell (get_or cells i no_cell) no_cell)) refl (λ i. refl) 8 (omega arith)
    ∙ ap (fold (λ zeros c. zeros && same_cell c no_cell) true) (take_all 8 cells (omega arith))

-- the first and the second cells gathered
pub gathered_zeros : (firsts seconds : List Cell) → length firsts ≡ 8 → length seconds ≡ 8
    → (fold (λ zeros c. zeros && same_cell c no_cell) true firsts && fold (λ zeros c. zeros && same_cell c no_cell) true seconds)
    ≡ below 8 (λ i. same_cell (get_or firsts i no_cell) no_cell && same_cell (get_or seconds i no_cell) no_cell)
gathered_zeros firsts seconds a b =
    rw (← all_zeros firsts a, ← all_zeros seconds b)
    (both (λ i. same_cell (get_or firsts i no_cell) no_cell) (λ i. same_cell (get_or seconds i no_cell) no_cell) 8)
