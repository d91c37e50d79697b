-- The form of records in bytes, and tables that bring it along: no rule that reads and writes records has to know it.
use Rattle.std.specs.Prelude.{◌≡◌, List, [], Bool, true, ℕ, ◌*◌, ◌<◌, length, get_or, drop, replicate}
use Rattle.std.proofs.lemmas.List.Edits.{sets}

-- the form of the records of one kind, of which `none` is the empty one
pub record Form (A : Type 0) (none : A) : Type 0 where
  -- a record's length, its bytes, the record that some bytes begin with, and whether its spare bytes are zero there
  pub width : ℕ
  pub bytes : A → List ℕ
  pub read : List ℕ → A
  pub spare : List ℕ → Bool
  -- the most rounds of a night that is kept in such records
  pub most : ℕ
  -- what is asked of them: only a record's own bytes are looked at, what was written is read back, and zeros are the empty record
  pub long : (a : A) → length (bytes a) ≡ width
  pub read_alike : (l m : List ℕ) → ((j : ℕ) → j < width → get_or l j 0 ≡ get_or m j 0) → read l ≡ read m
  pub spare_alike : (l m : List ℕ) → ((j : ℕ) → j < width → get_or l j 0 ≡ get_or m j 0) → spare l ≡ spare m
  pub read_back : (a : A) → read (bytes a) ≡ a
  pub spare_back : (a : A) → spare (bytes a) ≡ true
  pub read_none : read [] ≡ none
  pub spare_none : spare [] ≡ true
  pub zeros : bytes none ≡ replicate width 0

-- a lent table of records, "no header"
pub record Table (A : Type 0) (none : A) : Type 0 where
  pub form : Form A none
  pub bytes : List ℕ

module _ {A : Type 0} {none : A} where
  -- record i
  unfoldable pub record_at : Table A none → ℕ → A
  record_at t i = t.form.read (drop (t.form.width * i) t.bytes)

  -- "and spare bytes are zero": those of record i
  unfoldable pub spare_at : Table A none → ℕ → Bool
  spare_at t i = t.form.spare (drop (t.form.width * i) t.bytes)

  unfoldable pub stored : Table A none → ℕ → A → List ℕ
  stored t i a = sets t.bytes (t.form.width * i) (t.form.bytes a)

  abbrev pub store : Table A none → ℕ → A → Table A none
  store t i a = record { form = t.form; bytes = stored t i a }

  -- the exact length of a table of so many records
  abbrev pub length_of : Table A none → ℕ → ℕ
  length_of t count = t.form.width * count
