-- What the tests of a cue record and of the lists say, where a list stands, and that a refused record leaves the lists.
use mathlib.Core.Path.{◌≡◌, refl}
use mathlib.Core.List.{List}
use mathlib.Core.Bool.{Bool, true, false, not, ◌&&◌, ◌||◌}
use Prim.Native.Nat.{ℕ, ◌+◌, ◌*◌, ◌≤◌, ◌<◌}
use native.Mathlib.Omega.{arith}
use native.Mathlib.Nat.{add-zero}
use borrow.Author.Tests.{leb-true, leb-false, eqb-true, not-false}
use lib.Dec.{eqb, leb}
use lib.ListN.{length, get_or}
use lib.Seq.{get_or-drop}
use Rattle.laws.proofs.Cases.{either, bool, and_true, or_false}
use Rattle.laws.proofs.Index.{cell_below, product_le}
use Rattle.model.specs.Size.{within}
use Rattle.model.specs.Cues.{list_most, lists_length, lists_fit, list_start, list_length, code_at, bad_cue, add_cue}
use Rattle.cues.specs.Adding.{out_of_range, Placed}

-- a last test taken apart from those before it
or_apart : (a b c d e : Bool) → a || (b || (c || (d || e))) ≡ (a || (b || (c || d))) || e
or_apart true b c d e = refl
or_apart false true c d e = refl
or_apart false false true d e = refl
or_apart false false false d e = refl

-- a bad record is out of range, or its list is full
pub bad_apart : (n k : ℕ) (lists cue : List ℕ)
    → bad_cue n k lists cue ≡ out_of_range n k cue || leb list_most (list_length k lists (get_or cue 0 0) (get_or cue 1 0))
unfolding bad_cue out_of_range
bad_apart n k lists cue =
    or_apart (not (eqb (length cue) 4)) (leb n (get_or cue 0 0)) (leb k (get_or cue 1 0)) (eqb (get_or cue 2 0) 0 && eqb (get_or cue 3 0) 0)
    (leb list_most (list_length k lists (get_or cue 0 0) (get_or cue 1 0)))

-- racks and lanes in range are few lists
pub few_lists : (n k : ℕ) → within 1 8 n && within 1 4 k ≡ true → n * k ≤ 32
few_lists n k e =
    let t = and_true (within 1 8 n) (within 1 4 k) e in
    let a = and_true (leb 1 n) (leb n 8) t.0 in
    let b = and_true (leb 1 k) (leb k 4) t.1 in
    product_le {x = 8} {y = 4} (leb-true n 8 a.1) (leb-true k 4 b.1)

-- a list lies within lists that fit
pub list_within : (n k : ℕ) (lists : List ℕ) (rack lane : ℕ) → lists_fit n k lists ≡ true → rack < n → lane < k
    → 2 * (list_start k rack lane + list_most) ≤ length lists
unfolding lists_fit lists_length list_start
list_within n k lists rack lane e h g =
    let t = and_true (within 1 8 n) (within 1 4 k && eqb (length lists) (2 * (n * k * 64))) e in
    let u = and_true (within 1 4 k) (eqb (length lists) (2 * (n * k * 64))) t.1 in
    let exact = eqb-true (length lists) (2 * (n * k * 64)) u.1 in
    let below = cell_below {i = rack} {k = n} {r = lane} {n = k} h g in
    omega arith

-- so does that of a record in range
pub placed : (n k : ℕ) (lists cue : List ℕ) → lists_fit n k lists ≡ true → out_of_range n k cue ≡ false → Placed k lists cue
unfolding out_of_range
placed n k lists cue e f =
    let t = or_false _ _ f in
    let u = or_false _ _ t.1 in
    let v = or_false _ _ u.1 in
    record {
      whole = eqb-true (length cue) 4 (not-false (eqb (length cue) 4) t.0);
      within =
          list_within n k lists (get_or cue 0 0) (get_or cue 1 0) e (leb-false n (get_or cue 0 0) u.0)
          (leb-false k (get_or cue 1 0) v.0);
    }

-- "A refusal returns its number and zeros; tables, states and lists stay as before."
pub lists_stay : (n k : ℕ) (lists cue : List ℕ) → ((add_cue n k lists cue).number ≡ 0 → ⊥) → (add_cue n k lists cue).lists ≡ lists
unfolding add_cue
lists_stay n k lists cue m =
    either (bool (lists_fit n k lists))
    (λ e. either (bool (bad_cue n k lists cue)) (λ f. rw (e, f)) (λ f. absurd (m (rw (e, f)))))
    (λ e. rw e)

-- a code by its bytes in the lists
pub code_bytes : (lists : List ℕ) (i : ℕ) → code_at lists i ≡ get_or lists (2 * i) 0 + 256 * get_or lists (2 * i + 1) 0
unfolding code_at
code_bytes lists i = simp (get_or-drop, add-zero)
