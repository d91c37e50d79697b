-- One turn as it concerns the one rack that its record names.
use Rattle.std.specs.Prelude.{List, cond, ℕ, eqb}
use Rattle.model.specs.declared.Size.{Size}
use Rattle.model.specs.declared.Rack.{Rack}
use Rattle.model.specs.Table.{Tables}
use Rattle.model.specs.Step.{After, stepped}
use Rattle.model.specs.Turn.{bad_record, rack_of, lane_named, source_named, refusal_of}

-- the rack that a record names, 0 where the record is bad
unfoldable pub rack_named : Size → List ℕ → ℕ
rack_named s turn = cond (bad_record s turn) 0 (rack_of turn)

-- 0 or the refusal's number, and the tables and the rack afterwards
pub record RackOutcome : Type 0 where
  pub number : ℕ
  pub after : After

-- refusals 3 to 8 in their order, and else the step
unfoldable pub rack_turned : Size → Tables → Rack → List ℕ → RackOutcome
rack_turned s t r turn =
    let number = cond (bad_record s turn) 3 (refusal_of s t (rack_of turn) r (lane_named turn) (source_named turn)) in
    let taken = stepped s t (rack_of turn) r (lane_named turn) (source_named turn) in
    record { number = number; after = cond (eqb number 0) taken (record { tables = t; rack = r }) }
