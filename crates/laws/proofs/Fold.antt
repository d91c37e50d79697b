-- A recursion that takes in one element more at each number is the fold over a list's beginning.
use mathlib.Core.Path.{◌≡◌, sym, ap, subst, ◌∙◌}
use native.Mathlib.Omega.{arith}
use Rattle.std.proofs.Common.{List, ℕ, zero, suc, ◌+◌, ◌≤◌, length, get_or, take}
use Rattle.std.specs.List.{fold}
use Rattle.std.proofs.lemmas.List.Sums.{fold_more}

pub folded : {A B : Type 0} (f : B → A → B) (b : B) (xs : List A) (d : A) (g : ℕ → B)
    → g 0 ≡ b → ((i : ℕ) → g (suc i) ≡ f (g i) (get_or xs i d)) → (n : ℕ) → n ≤ length xs → g n ≡ fold f b (take n xs)
folded f b xs d g start step zero h = start
folded f b xs d g start step (suc n) h =
    let one : suc n ≡ n + 1 = omega arith in
    subst (λ m. g (suc n) ≡ fold f b (take m xs)) (sym one)
    (step n ∙ ap (λ a. f a (get_or xs n d)) (folded f b xs d g start step n (omega (arith, h))) ∙ sym (fold_more f b xs n d (omega (arith, h))))
