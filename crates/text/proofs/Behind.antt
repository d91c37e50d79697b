-- A page is a buffer with a place in it, and its text is what stands before the place: what is written from there on goes behind it.
use mathlib.Core.Path.{◌≡◌, sym, ap, ◌∙◌}
use mathlib.Core.List.{List, ◌++◌}
use Prim.Native.Nat.{ℕ, ◌+◌, ◌≤◌}
use native.Mathlib.Omega.{arith}
use lib.ListN.{length, take, drop, length-append}
use lib.Seq.{length-take-le, take-append_seam}
use Rattle.std.proofs.lemmas.List.Edits.{sets-eq}
use Rattle.text.specs.Written.{Written, write}

-- what a text of at most so many bytes leaves of a page
pub record Paged (all most : ℕ) (before text : List ℕ) (w : Written) : Type 0 where
  pub inside : w.place ≤ all
  pub text_is : take w.place w.bytes ≡ before ++ text
  pub near : length (take w.place w.bytes) ≤ length before + most

module _ (all most : ℕ) (bytes before text : List ℕ) (count : ℕ) (w : Written) (e : w ≡ write bytes count text) (same : take count bytes ≡ before)
    (exact : length bytes ≡ all) (within : count ≤ all) (room : length before + most ≤ all) (short : length text ≤ most) where
  count_is : length before ≡ count
  count_is = ap length (sym same) ∙ length-take-le count bytes (omega arith)

  place_is : w.place ≡ count + length text
  unfolding write
  place_is = ap (λ (x : Written). x.place) e

  text_behind : take w.place w.bytes ≡ before ++ text
  unfolding write
  text_behind =
      let front : length (before ++ text) ≡ count + length text = length-append before text ∙ ap (λ n. n + length text) count_is in
      rw (e, sets-eq text bytes count (omega (arith, count_is)), same, ← front) (take-append_seam (before ++ text) (drop (length (before ++ text)) bytes))

  pub paged : Paged all most before text w
  paged =
      record {
        inside = omega (arith, place_is, count_is);
        text_is = text_behind;
        near = rw text_behind (rw length-append (omega arith));
      }
