-- A run of stores, `sets`: what it leaves, what it stores, and what it is in a part of a list.
use mathlib.Core.Path.{◌≡◌, refl, ap, ◌∙◌}
use mathlib.Core.List.{List, [], ◌∷◌, ◌++◌}
use mathlib.Core.Logic.{◌⊎◌, inl, inr}
use Prim.Native.Nat.{ℕ, zero, suc, ◌+◌, ◌≤◌, ◌<◌}
use native.Mathlib.Omega.{arith}
use native.Mathlib.Nat.{add-zero}
use lib.ListN.{length, get_or, take, drop, set, take-append-drop, length-set}
use lib.Seq.{sets, take-set-le, drop-set-lt, take-set-lt, drop-set-add, get_or-set_same, get_or-set_other}

module _ {A : Type 0} where
  -- what a run of stores leaves as it was
  pub sets_out : (vs l : List A) (b k : ℕ) (d : A) → (k < b) ⊎ (b + length vs ≤ k) → get_or (sets l b vs) k d ≡ get_or l k d
  sets_out [] l b k d h = refl
  sets_out (v ∷ vs) l b k d (inl h) =
      sets_out vs (set l b v) (suc b) k d (inl (omega arith)) ∙ get_or-set_other l b k v d (λ e. omega arith)
  sets_out (v ∷ vs) l b k d (inr h) =
      sets_out vs (set l b v) (suc b) k d (inr (omega arith)) ∙ get_or-set_other l b k v d (λ e. omega arith)

  -- what it stores
  pub sets_in : (vs l : List A) (b j : ℕ) (d : A) → j < length vs → b + length vs ≤ length l → get_or (sets l b vs) (b + j) d ≡ get_or vs j d
  sets_in [] l b j d h f = absurd (omega arith)
  sets_in (v ∷ vs) l b zero d h f =
      rw add-zero
      (sets_out vs (set l b v) (suc b) b d (inl (omega arith)) ∙ get_or-set_same l b v d (omega arith))
  sets_in (v ∷ vs) l b (suc j) d h f =
      let f' : suc b + length vs ≤ length (set l b v) = simp length-set (omega arith) in
      let e : b + suc j ≡ suc b + j = omega arith in
      rw e (sets_in vs (set l b v) (suc b) j d (omega arith) f')

  pub take_sets : (vs l : List A) (n i : ℕ) → n ≤ i → take n (sets l i vs) ≡ take n l
  take_sets [] l n i h = refl
  take_sets (v ∷ vs) l n i h = take_sets vs (set l i v) n (suc i) (omega arith) ∙ take-set-le n l i v h

  pub drop_sets : (vs l : List A) (n i : ℕ) → i + length vs ≤ n → drop n (sets l i vs) ≡ drop n l
  drop_sets [] l n i h = refl
  drop_sets (v ∷ vs) l n i h = drop_sets vs (set l i v) n (suc i) (omega arith) ∙ drop-set-lt n l i v (omega arith)

  pub take_sets_in : (vs l : List A) (n i : ℕ) → i + length vs ≤ n → take n (sets l i vs) ≡ sets (take n l) i vs
  take_sets_in [] l n i h = refl
  take_sets_in (v ∷ vs) l n i h =
      take_sets_in vs (set l i v) n (suc i) (omega arith)
      ∙ ap (λ (x : List A). sets x (suc i) vs) (take-set-lt n l i v (omega arith))

  pub drop_sets_add : (vs l : List A) (n i : ℕ) → drop n (sets l (n + i) vs) ≡ sets (drop n l) i vs
  drop_sets_add [] l n i = refl
  drop_sets_add (v ∷ vs) l n i =
      let e : suc (n + i) ≡ n + suc i = omega arith in
      ap (λ (k : ℕ). drop n (sets (set l (n + i) v) k vs)) e
      ∙ drop_sets_add vs (set l (n + i) v) n (suc i)
      ∙ ap (λ (x : List A). sets x (suc i) vs) (drop-set-add n l i v)

  -- a run of stores into a part that was lent, said of the whole
  pub sets_part : (vs l : List A) (a k i : ℕ) → i + length vs ≤ k
      → take a l ++ (sets (take k (drop a l)) i vs ++ drop k (drop a l)) ≡ sets l (a + i) vs
  sets_part vs l a k i h =
      let m = sets l (a + i) vs in
      let e0 : take a m ≡ take a l = take_sets vs l a (a + i) (omega arith) in
      let e1 : drop a m ≡ sets (drop a l) i vs = drop_sets_add vs l a i in
      let e2 : take k (drop a m) ≡ sets (take k (drop a l)) i vs = ap (take k) e1 ∙ take_sets_in vs (drop a l) k i h in
      let e3 : drop k (drop a m) ≡ drop k (drop a l) = ap (drop k) e1 ∙ drop_sets vs (drop a l) k i h in
      rw (← e0, ← e2, ← e3, take-append-drop k (drop a m), take-append-drop a m)

  -- a run of stores behind another is one run
  pub sets_append : (xs ys l : List A) (a : ℕ) → sets (sets l a xs) (a + length xs) ys ≡ sets l a (xs ++ ys)
  sets_append [] ys l a = rw add-zero
  sets_append (x ∷ xs) ys l a =
      let e : a + suc (length xs) ≡ suc a + length xs = omega arith in
      rw e (sets_append xs ys (set l a x) (suc a))
