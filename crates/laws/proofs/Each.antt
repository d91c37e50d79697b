-- What `all` answers over a range of numbers, and over a slice: a test at every number below a bound.
use mathlib.Core.Path.{◌≡◌, refl, sym, ap, ◌∙◌}
use mathlib.Core.Bool.{Bool, ◌&&◌}
use mathlib.Core.List.{List, [], ◌∷◌}
use Prim.Native.Nat.{ℕ, zero, suc, ◌+◌}
use native.Mathlib.Omega.{arith}
use lib.ListN.{length, get_or}
use lib.Seq.{take-length}
use denote.Param.Members.{Mut}
use denote.Ref.{Bor}
use Rattle.std.specs.Fn.{Called}
use Rattle.std.specs.List.{list_all, enumerate_from}
use Rattle.std.specs.declared.ops.Range.{Range}
use Rattle.std.specs.declared.slice.Iter.{Iter}
use Rattle.std.specs.declared.iter.Enumerate.{Enumerate}
use Rattle.std.specs.Iterator.Adapters.{enumerate_source, enumerate_count, enumerate_steps}
use Rattle.std.specs.Slice.Iter.{iter_rest}
use Rattle.std.specs.Iterator.{ChecksAll}
use Rattle.std.proofs.iter.Yields.{nat_range_steps, fronts}
use Rattle.std.proofs.lemmas.Iterator.{YieldsList-from_range, YieldsList-from_slice}
use Rattle.std.proofs.lemmas.Iterator.Consumers.{YieldsList-from_enumerate}
use Rattle.std.proofs.lemmas.Iterator.Search.{all_from_yields_List}
use Rattle.laws.specs.Below.{below}
use Rattle.laws.proofs.Below.{below_first, below_all, below_all_from, below_all_of}

-- a call of the closure g, in the state f, tests what it is given
abbrev pub Tests : {F A B : Type 0} → Mut F (A × Unit {0}) Bool → F → (A → B) → (B → Bool) → Type 0
Tests {F} {A} g f value test = (x : A) (b : Bool) (q : F) → Called g f (x, tt) b q → (q ≡ f) × (b ≡ test (value x))

module _ {F : Type 0} {g : Mut F (ℕ × Unit {0}) Bool} {f : F} {u : Range ℕ} {r : Bool} (test : ℕ → Bool) where
  pub all_from : (a n : ℕ) → ChecksAll nat_range_steps g (record { start = a; end = a + n }) f r u → Tests g f (λ x. x) test
      → r ≡ below n (λ i. test (a + i))
  all_from a n e t = all_from_yields_List test _ _ r e (YieldsList-from_range a (a + n) n refl (omega arith)) t ∙ sym (below_all_from test a n)

  pub all_range : (n : ℕ) → ChecksAll nat_range_steps g (record { start = 0; end = n }) f r u → Tests g f (λ x. x) test → r ≡ below n test
  all_range n e t = all_from_yields_List test _ _ r e (YieldsList-from_range 0 n n refl (omega arith)) t ∙ sym (below_all test n)

-- the test passes at every element of a list
pub list_below : {A : Type 0} (test : A → Bool) (d : A) (xs : List A) (n : ℕ) → length xs ≡ n → list_all test xs ≡ below n (λ i. test (get_or xs i d))
list_below test d xs n h =
    ap (list_all test) (sym (take-length xs))
    ∙ sym (below_all_of test d xs (length xs) (omega arith))
    ∙ ap (λ m. below m (λ i. test (get_or xs i d))) h

pub all_in : {A F : Type 0} {g : Mut F (Bor A × Unit {0}) Bool} {f : F} {s u : Iter A} {r : Bool} (test : A → Bool) (d : A) (xs : List A) (n : ℕ)
    → length xs ≡ n → iter_rest s ≡ xs → ChecksAll fronts g s f r u → Tests g f (λ x. x.now) test → r ≡ below n (λ i. test (get_or xs i d))
all_in {r = r} test d xs n h e a t = all_from_yields_List test _ _ r a (YieldsList-from_slice xs e) t ∙ list_below test d xs n h

-- the test passes at every element with its place, of which the first is k
counted : {A : Type 0} (test : ℕ → A → Bool) (d : A) (k : ℕ) (xs : List A)
    → list_all (λ p. test p.0 p.1) (enumerate_from k xs) ≡ below (length xs) (λ i. test (k + i) (get_or xs i d))
counted test d k [] = refl
counted test d k (x ∷ xs) =
    let here : k ≡ k + 0 = omega arith in
    let shift : (i : ℕ) → k + 1 + i ≡ k + suc i = λ i. omega arith in
    ap (λ b. test k x && b) (counted test d (k + 1) xs)
    ∙ (λ j. test (here j) x && below (length xs) (λ i. test (shift i j) (get_or xs i d)))
    ∙ sym (below_first (λ i. test (k + i) (get_or (x ∷ xs) i d)) (length xs))

pub all_counted : {A F : Type 0} {g : Mut F ((ℕ × Bor A) × Unit {0}) Bool} {f : F} {s u : Enumerate (Iter A)} {r : Bool} (test : ℕ → A → Bool) (d : A) (xs : List A) (n : ℕ)
    → length xs ≡ n → iter_rest (enumerate_source s) ≡ xs → enumerate_count s ≡ 0 → ChecksAll (enumerate_steps fronts) g s f r u
    → Tests {B = ℕ × A} g f (λ p. (p.0, p.1.now)) (λ p. test p.0 p.1) → r ≡ below n (λ i. test i (get_or xs i d))
all_counted {r = r} test d xs n h e z a t =
    let shift : (i : ℕ) → 0 + i ≡ i = λ i. omega arith in
    all_from_yields_List (λ p. test p.0 p.1) _ _ r a (YieldsList-from_enumerate (YieldsList-from_slice xs e) z) t
    ∙ counted test d 0 xs
    ∙ (λ k. below (h k) (λ i. test (shift i k) (get_or xs i d)))
