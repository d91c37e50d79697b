-- "Fresh: all cells and logs zero, all decisions 255, every rack at round 1, step 0, no first lane, nothing gathered, no result or news,
-- logs empty, holding its own #1 at place 0 in each lane."
use Rattle.std.specs.Prelude.{List, [], ◌∷◌, ◌++◌, cond, ℕ, zero, suc, ltb, replicate}
use Rattle.model.specs.declared.Size.{Size}
use Rattle.model.specs.declared.Value.{Value}
use Rattle.model.specs.declared.Rack.{Rack}
use Rattle.model.specs.Size.{decisions_length}
use Rattle.model.specs.Record.{no_cue, no_value, no_cell}
use Rattle.model.specs.Table.{Tables, Card, undecided, no_lane}
use Rattle.model.specs.Turn.{Outcome, fits}
use Rattle.model.specs.InUse.{cells_length, logs_length, tables_of}

-- a list by its elements
unfoldable pub table : {A : Type 0} → ℕ → (ℕ → A) → List A
table zero f = []
table (suc n) f = table n f ++ (f n ∷ [])

-- "its own #1 at place 0"
abbrev pub own_first : ℕ → Value
own_first rack = record { place = 0; cue = record { issuer = rack; number = 1 }; previous = no_cue }

abbrev pub fresh_rack : Size → ℕ → Rack
fresh_rack s rack =
    record {
      round = 1;
      step = 0;
      first = no_lane;
      firsts = replicate 8 no_cell;
      seconds = replicate 8 no_cell;
      held = table 4 (λ lane. cond (ltb lane s.lanes) (own_first rack) no_value);
      results = replicate 4 no_cell;
      news = replicate 4 no_value;
    }

-- "Unused racks and lanes are zeros."
abbrev pub zero_rack : Rack
zero_rack =
    record {
      round = 0;
      step = 0;
      first = 0;
      firsts = replicate 8 no_cell;
      seconds = replicate 8 no_cell;
      held = replicate 4 no_value;
      results = replicate 4 no_cell;
      news = replicate 4 no_value;
    }

abbrev pub fresh_tables : Size → Tables
fresh_tables s =
    tables_of (replicate (cells_length s) 0) (replicate (logs_length s) 0) (replicate (decisions_length s) undecided)

abbrev pub fresh_racks : Size → List Rack
fresh_racks s = table 8 (λ rack. cond (ltb rack s.racks) (fresh_rack s rack) zero_rack)

unfoldable pub fresh_card : Size → Card
fresh_card s = record { tables = fresh_tables s; racks = fresh_racks s }

-- the call fills the lent tables, which are of the form in use, and hands back the racks; refused, the tables stay and the racks are zeros
unfoldable pub filled : Size → Tables → Outcome
filled s t =
    cond (fits s t)
    (record { number = 0; card = fresh_card s })
    (record { number = 1; card = record { tables = t; racks = replicate 8 zero_rack } })
