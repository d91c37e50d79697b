-- The elements of a list that is made by its elements, or of one element alone.
use mathlib.Core.Path.{◌≡◌, refl, ◌∙◌}
use mathlib.Core.Logic.{◌≢◌}
use mathlib.Core.List.{[], ◌∷◌}
use Prim.Native.Nat.{ℕ, zero, suc, ◌≤◌, ◌<◌}
use native.Mathlib.Omega.{arith}
use lib.ListN.{length, get_or, replicate, length-append, length-replicate, get_or-replicate, get_or-append, get_or-eq_default}
use lib.Seq.{get_or_at}
use Rattle.laws.proofs.Cases.{either, eq_or_ne, lt_or_ge}
use Rattle.model.specs.Fresh.{table}

-- also past the end, where the same is read
pub get_d_same : {A : Type 0} (n i : ℕ) (a : A) → get_or (replicate n a) i a ≡ a
get_d_same n i a =
    either (lt_or_ge i n)
    (λ (h : i < n). get_or-replicate n i a a h)
    (λ (h : n ≤ i). get_or-eq_default (replicate n a) a (rw (length-replicate n a) h))

pub length_table : {A : Type 0} (n : ℕ) (f : ℕ → A) → length (table n f) ≡ n
unfolding table
length_table zero f = refl
length_table (suc n) f =
    let e = length-append (table n f) (f n ∷ []) in
    let h = length_table n f in
    omega arith

pub get_d_table : {A : Type 0} (n : ℕ) (f : ℕ → A) (i : ℕ) (d : A) → i < n → get_or (table n f) i d ≡ f i
unfolding table
get_d_table zero f i d h = absurd (omega arith)
get_d_table (suc n) f i d h =
    either (eq_or_ne i n)
    (λ (e : i ≡ n). rw e (get_or_at (table n f) (f n) [] d n (length_table n f)))
    (λ (g : i ≢ n).
    get_or-append (table n f) (f n ∷ []) d i (rw (length_table n f) (omega arith))
    ∙ get_d_table n f i d (omega arith))
