-- Laws of the tables' records, of every form: what callers use in the place of the definitions' text.
use mathlib.Core.Path.{◌≡◌, sym, ◌∙◌}
use mathlib.Core.List.{◌++◌}
use mathlib.Core.Logic.{◌⊎◌, inl, inr, ◌≢◌}
use mathlib.Core.Bool.{true}
use Prim.Native.Nat.{ℕ, ◌+◌, ◌*◌, ◌≤◌, ◌<◌}
use native.Mathlib.Omega.{arith}
use native.Mathlib.Nat.{mul_comm, mul-add}
use lib.ListN.{length, get_or, take, drop}
use lib.Seq.{sets, length-sets, get_or-drop}
use Rattle.laws.proofs.Cases.{either, eq_or_ne, lt_or_ge}
use Rattle.laws.proofs.Index.{rows_below}
use Rattle.laws.proofs.Runs.{sets_in, sets_out, sets_part}
use Rattle.model.specs.Form.{Table, record_at, spare_at, stored, store}

-- a number other than i is below or above it
apart : (k i : ℕ) → k ≢ i → (k < i) ⊎ (i < k)
apart k i n = either (lt_or_ge k i) (λ h. inl h) (λ h. inr (omega (arith, n)))

-- records of one width: whole ones end where the next one starts
pub ends : (w i k : ℕ) → i < k → w * i + w ≤ w * k
ends w i k h = let p = rows_below {i = i} {k = k} w h in let a = mul_comm w i in let b = mul_comm w k in omega arith

module _ {A : Type 0} {none : A} (t : Table A none) where
  abbrev w : ℕ
  w = t.form.width

  abbrev pub Room : ℕ → Type 0
  Room i = w * i + w ≤ length t.bytes

  -- so many records, and no byte more
  abbrev pub Holds : ℕ → Type 0
  Holds count = length t.bytes ≡ w * count

  pub room : (count i : ℕ) → Holds count → i < count → Room i
  room count i e h = let p = ends w i count h in omega arith

  module _ (i : ℕ) (a : A) where
    pub length_store : length (stored t i a) ≡ length t.bytes
    unfolding stored
    length_store = length-sets t.bytes (w * i) (t.form.bytes a)

    -- a byte of the record that was stored
    module _ (h : Room i) where
      in_store : (j : ℕ) → j < w → get_or (drop (w * i) (stored t i a)) j 0 ≡ get_or (t.form.bytes a) j 0
      unfolding stored
      in_store j b =
          let l = t.form.long a in
          get_or-drop (w * i) (sets t.bytes (w * i) (t.form.bytes a)) j 0
          ∙ sets_in (t.form.bytes a) t.bytes (w * i) j 0 (omega arith) (omega arith)

      pub load_store : record_at (store t i a) i ≡ a
      unfolding record_at
      load_store = t.form.read_alike _ _ in_store ∙ t.form.read_back a

      pub spare_store : spare_at (store t i a) i ≡ true
      unfolding spare_at
      spare_store = t.form.spare_alike _ _ in_store ∙ t.form.spare_back a

    -- a byte of another record
    module _ (k : ℕ) (n : k ≢ i) where
      off_store : (j : ℕ) → j < w → get_or (drop (w * k) (stored t i a)) j 0 ≡ get_or (drop (w * k) t.bytes) j 0
      unfolding stored
      off_store j b =
          let l = t.form.long a in
          get_or-drop (w * k) (sets t.bytes (w * i) (t.form.bytes a)) j 0
          ∙ sets_out (t.form.bytes a) t.bytes (w * i) (w * k + j) 0
          (either (apart k i n)
          (λ (x : k < i). let p = ends w k i x in inl (omega arith))
          (λ (y : i < k). let p = ends w i k y in inr (omega arith)))
          ∙ sym (get_or-drop (w * k) t.bytes j 0)

      pub load_other : record_at (store t i a) k ≡ record_at t k
      unfolding record_at
      load_other = t.form.read_alike _ _ off_store

      pub spare_other : spare_at (store t i a) k ≡ spare_at t k
      unfolding spare_at
      spare_other = t.form.spare_alike _ _ off_store

  -- a record stored in a part that starts at record f, said of the whole
  pub store_part : (f i k : ℕ) (a : A) → w * i + w ≤ k
      → take (w * f) t.bytes
      ++ (stored (record { form = t.form; bytes = take k (drop (w * f) t.bytes) }) i a ++ drop k (drop (w * f) t.bytes))
      ≡ stored t (f + i) a
  unfolding stored
  store_part f i k a h =
      let d : w * (f + i) ≡ w * f + w * i = mul-add w f i in
      let l = t.form.long a in
      rw d (sets_part (t.form.bytes a) t.bytes (w * f) k (w * i) (omega arith))

-- every record stands in the table as it is written
pub record Neat {A : Type 0} {none : A} (count : ℕ) (t : Table A none) : Type 0 where
  pub whole : Holds t count
  pub neat : (i : ℕ) → i < count → (j : ℕ) → j < t.form.width
      → get_or (drop (t.form.width * i) t.bytes) j 0 ≡ get_or (t.form.bytes (record_at t i)) j 0

pub neat_store : {A : Type 0} {none : A} {count : ℕ} (t : Table A none) (i : ℕ) (a : A) → Neat count t → Neat count (store t i a)
neat_store {count = count} t i a z =
    record {
      whole = length_store t i a ∙ z.whole;
      neat =
          λ k h j g.
          either (eq_or_ne k i)
          (λ (e : k ≡ i). rw e
          (let r = room t count i z.whole (rw (← e) h) in rw (load_store t i a r) (in_store t i a r j g)))
          (λ (d : k ≢ i). rw (load_other t i a k d) (off_store t i a k d j g ∙ z.neat k h j g));
    }
