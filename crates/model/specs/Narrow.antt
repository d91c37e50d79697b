-- The forms of nights of up to 64 rounds: every field is a byte.
use Rattle.std.specs.Prelude.{◌≡◌, refl, List, [], ◌∷◌, Bool, true, ◌&&◌, ℕ, ◌<◌, eqb, get_or}
use Rattle.std.proofs.Common.{lit<}
use Rattle.model.specs.declared.Cue.{Cue}
use Rattle.model.specs.declared.Cell.{Cell}
use Rattle.model.specs.Size.{most_rounds}
use Rattle.model.specs.Record.{no_cue, no_cell}
use Rattle.model.specs.Form.{Form}

-- "A cell record: mark .., place, issuer, number, previous issuer, previous number, two zero bytes."
abbrev pub cell_bytes : Cell → List ℕ
cell_bytes c =
    c.mark
    ∷ c.value.place
    ∷ c.value.cue.issuer
    ∷ c.value.cue.number
    ∷ c.value.previous.issuer
    ∷ c.value.previous.number
    ∷ 0
    ∷ 0
    ∷ []

-- the cell whose record these bytes begin with
abbrev pub cell_of : List ℕ → Cell
cell_of bytes =
    record {
      mark = get_or bytes 0 0;
      value =
          record {
            place = get_or bytes 1 0;
            cue = record { issuer = get_or bytes 2 0; number = get_or bytes 3 0 };
            previous = record { issuer = get_or bytes 4 0; number = get_or bytes 5 0 };
          };
    }

-- "two zero bytes"
abbrev pub cell_spare : List ℕ → Bool
cell_spare bytes = eqb (get_or bytes 6 0) 0 && eqb (get_or bytes 7 0) 0

pub cell_alike : (l m : List ℕ) → ((j : ℕ) → j < 8 → get_or l j 0 ≡ get_or m j 0) → cell_of l ≡ cell_of m
cell_alike l m e =
    λ t. record {
      mark = e 0 (lit< tt) t;
      value =
          record {
            place = e 1 (lit< tt) t;
            cue = record { issuer = e 2 (lit< tt) t; number = e 3 (lit< tt) t };
            previous = record { issuer = e 4 (lit< tt) t; number = e 5 (lit< tt) t };
          };
    }

pub cell_spare_alike : (l m : List ℕ) → ((j : ℕ) → j < 8 → get_or l j 0 ≡ get_or m j 0) → cell_spare l ≡ cell_spare m
cell_spare_alike l m e = λ t. eqb (e 6 (lit< tt) t) 0 && eqb (e 7 (lit< tt) t) 0

-- "8-byte records, no header"; "An empty cell is eight zeros."
abbrev pub narrow_cell : Form Cell no_cell
narrow_cell =
    record {
      width = 8;
      bytes = cell_bytes;
      read = cell_of;
      spare = cell_spare;
      most = most_rounds;
      long = λ c. refl;
      read_alike = cell_alike;
      spare_alike = cell_spare_alike;
      read_back = λ c. refl;
      spare_back = λ c. refl;
      read_none = refl;
      spare_none = refl;
      zeros = refl;
    }

-- "records of issuer and number"
abbrev pub cue_bytes : Cue → List ℕ
cue_bytes c = c.issuer ∷ c.number ∷ []

-- the cue whose record these bytes begin with
abbrev pub cue_of : List ℕ → Cue
cue_of bytes = record { issuer = get_or bytes 0 0; number = get_or bytes 1 0 }

pub cue_alike : (l m : List ℕ) → ((j : ℕ) → j < 2 → get_or l j 0 ≡ get_or m j 0) → cue_of l ≡ cue_of m
cue_alike l m e = λ t. record { issuer = e 0 (lit< tt) t; number = e 1 (lit< tt) t }

-- two bytes, and none of them spare
abbrev pub narrow_entry : Form Cue no_cue
narrow_entry =
    record {
      width = 2;
      bytes = cue_bytes;
      read = cue_of;
      spare = λ bytes. true;
      most = most_rounds;
      long = λ c. refl;
      read_alike = cue_alike;
      spare_alike = λ l m e. refl;
      read_back = λ c. refl;
      spare_back = λ c. refl;
      read_none = refl;
      spare_none = refl;
      zeros = refl;
    }
