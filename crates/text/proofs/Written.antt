-- Texts written one behind the other.
use mathlib.Core.Path.{◌≡◌, refl, ap, ◌∙◌}
use mathlib.Core.List.{List, [], ◌∷◌, ◌++◌}
use Prim.Native.Nat.{ℕ, ◌+◌, ◌≤◌, ◌<◌}
use native.Mathlib.Omega.{arith}
use native.Mathlib.Numerals.{add-one}
use lib.ListN.{length, get_or, take, set, length-append}
use lib.Seq.{sets, length-sets, length-take-le, take-suc}
use Rattle.laws.proofs.Runs.{sets_append}
use Rattle.text.specs.Written.{Written, write}

-- a text behind another is one text
pub behind : (l : List ℕ) (a : ℕ) (xs ys : List ℕ) {v w : Written}
    → v ≡ write l a xs → w ≡ write v.bytes v.place ys → w ≡ write l a (xs ++ ys)
unfolding write
behind l a xs ys e f =
    let place : a + length xs + length ys ≡ a + length (xs ++ ys) = omega (arith, length-append xs ys) in
    f
    ∙ ap (λ (u : Written). write u.bytes u.place ys) e
    ∙ (λ i. record { bytes = sets_append xs ys l a i; place = place i })

-- what is written leaves the buffer's length and moves the place on by at most the text's length
pub record Moved (l : List ℕ) (a most : ℕ) (w : Written) : Type 0 where
  pub same : length w.bytes ≡ length l
  pub near : w.place ≤ a + most

pub moved : (l : List ℕ) (a : ℕ) (xs : List ℕ) {most : ℕ} {w : Written} → w ≡ write l a xs → length xs ≤ most → Moved l a most w
unfolding write
moved l a xs e h =
    record {
      same = ap (λ (u : Written). length u.bytes) e ∙ length-sets l a xs;
      near = omega (arith, ap (λ (u : Written). u.place) e);
    }

-- one byte more of a text
pub one_more : (w l : List ℕ) (a i : ℕ) → i < length w → set (sets l a (take i w)) (a + i) (get_or w i 0) ≡ sets l a (take (i + 1) w)
one_more w l a i h =
    let e : length (take i w) ≡ i = length-take-le i w (omega arith) in
    rw (add-one, take-suc w i 0 h, ← sets_append (take i w) (get_or w i 0 ∷ []) l a, e)

-- one byte stored is a text of one byte
pub one_byte : (l : List ℕ) (a b : ℕ) → ◌≡◌ {A = Written} (record { bytes = set l a b; place = a + 1 }) (write l a (b ∷ []))
unfolding write
one_byte l a b = refl
