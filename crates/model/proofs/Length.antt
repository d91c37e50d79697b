-- What a log's length says of its records, and bounds of what is counted in a log.
use mathlib.Core.Path.{◌≡◌, refl, ap, ◌∙◌}
use mathlib.Core.Bool.{Bool, true, false}
use Prim.Native.Nat.{ℕ, zero, suc, ◌+◌, ◌-◌, ◌≤◌, ◌<◌}
use native.Mathlib.Omega.{arith}
use native.Mathlib.Nat.{add-zero}
use lib.Dec.{eqb}
use Rattle.laws.proofs.Cases.{either, bool, lt_or_ge, clash_bool}
use Rattle.model.specs.declared.Cue.{Cue}
use Rattle.model.specs.Record.{no_cue, same_cue, Logs, entry_at}
use Rattle.model.specs.Table.{length_from}
use Rattle.model.specs.Settle.{own_cues, last_entry}

-- record i is a zero one
abbrev pub zero_at : Logs → ℕ → Bool
zero_at table i = same_cue (entry_at table i) no_cue

module _ (table : Logs) where
  -- no record is counted if the first is a zero one
  pub length_zero : (i most : ℕ) → zero_at table i ≡ true → length_from table i most ≡ 0
  unfolding length_from
  length_zero i zero e = refl
  length_zero i (suc most) e = rw e

  -- a first record that is not zero is counted
  pub length_one : (i most : ℕ) → zero_at table i ≡ false → length_from table i (suc most) ≡ suc (length_from table (suc i) most)
  unfolding length_from
  length_one i most e = rw e

  -- the same with i records passed
  pub length_next : (at i most : ℕ) → i < most → zero_at table (at + i) ≡ false
      → length_from table (at + i) (most - i) ≡ suc (length_from table (at + (i + 1)) (most - (i + 1)))
  length_next at i most h e =
      let d : most - i ≡ suc (most - (i + 1)) = omega arith in
      let f : at + (i + 1) ≡ suc (at + i) = omega arith in
      rw (d, f) (length_one (at + i) (most - (i + 1)) e)

  -- a length is at most what it may be
  pub length_most : (i most : ℕ) → length_from table i most ≤ most
  unfolding length_from
  length_most i zero = omega arith
  length_most i (suc most) =
      either (bool (zero_at table i))
      (λ z. rw (length_zero i (suc most) z) (omega arith))
      (λ u. rw (length_one i most u) (omega (arith, length_most (suc i) most)))

  -- every record before it is not zero
  pub length_used : (i most j : ℕ) → j < length_from table i most → zero_at table (i + j) ≡ false
  unfolding length_from
  length_used i zero j h = absurd (omega arith)
  length_used i (suc most) j h =
      either (bool (zero_at table i))
      (λ z. absurd (omega (arith, length_zero i (suc most) z)))
      (λ u. used j u (rw (length_one i most u) at h) (λ k. length_used (suc i) most k))
    where
      used : (j : ℕ) → zero_at table i ≡ false → j < suc (length_from table (suc i) most)
          → ((k : ℕ) → k < length_from table (suc i) most → zero_at table (suc i + k) ≡ false) → zero_at table (i + j) ≡ false
      used zero u g later = rw add-zero u
      used (suc k) u g later =
          let e : i + suc k ≡ suc i + k = omega arith in
          rw e (later k (omega arith))

  -- the record at it is zero, if it is less than it may be
  pub length_end : (i most : ℕ) → length_from table i most < most → zero_at table (i + length_from table i most) ≡ true
  unfolding length_from
  length_end i zero h = absurd (omega arith)
  length_end i (suc most) h =
      either (bool (zero_at table i))
      (λ z. rw (length_zero i (suc most) z, add-zero) z)
      (λ u. let g = rw (length_one i most u) at h in
      let e : i + suc (length_from table (suc i) most) ≡ suc i + length_from table (suc i) most = omega arith in
      rw (length_one i most u, e) (length_end (suc i) most (omega arith)))

  -- a number is the length if every record before it is not zero, and it is all or the record at it is zero
  pub length_is : (i most n : ℕ) → n ≤ most → ((j : ℕ) → j < n → zero_at table (i + j) ≡ false)
      → (n < most → zero_at table (i + n) ≡ true) → length_from table i most ≡ n
  length_is i most n h used end =
      either (lt_or_ge (length_from table i most) n)
      (λ (l : length_from table i most < n). clash_bool (length_end i most (omega arith)) (used (length_from table i most) l))
      (λ (g : n ≤ length_from table i most). either (lt_or_ge n (length_from table i most))
      (λ (l : n < length_from table i most).
      clash_bool (end (omega (arith, length_most i most))) (length_used i most n l))
      (λ (l : length_from table i most ≤ n). omega arith))

  -- a rack's own cues are at most all
  pub own_most : (start rack count : ℕ) → own_cues table start rack count ≤ count
  unfolding own_cues
  own_most start rack zero = omega arith
  own_most start rack (suc i) =
      either (bool (eqb (entry_at table (start + i)).issuer rack))
      (λ t. rw t (omega (arith, own_most start rack i)))
      (λ f. rw f (omega (arith, own_most start rack i)))

  -- the last entry of a log that is not empty
  pub last_there : (start count : ℕ) → (count ≡ 0 → ⊥) → last_entry table start count ≡ entry_at table (start + (count - 1))
  unfolding last_entry
  last_there start zero h = absurd (h refl)
  last_there start (suc i) h = let e : suc i - 1 ≡ i = omega arith in rw e

-- tables with the same records from i and from j on have the same length there
pub length_same : (s t : Logs) (i j most : ℕ) → ((m : ℕ) → m < most → entry_at s (i + m) ≡ entry_at t (j + m))
    → length_from s i most ≡ length_from t j most
length_same s t i j most same =
    length_is s i most (length_from t j most) (length_most t j most)
    (λ m h. ap (λ (c : Cue). same_cue c no_cue) (same m (omega (arith, length_most t j most))) ∙ length_used t j most m h)
    (λ h. ap (λ (c : Cue). same_cue c no_cue) (same (length_from t j most) h) ∙ length_end t j most h)
