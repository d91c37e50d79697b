-- What a step of each kind leaves, over just the tables that it is lent.
use Rattle.std.specs.Prelude.{List, cond, ℕ, set}
use Rattle.model.specs.Record.{Cells, Logs}
use Rattle.model.specs.declared.Size.{Size}
use Rattle.model.specs.declared.Rack.{Rack}
use Rattle.model.specs.Table.{decision_index}
use Rattle.model.specs.Settle.{Settled, settle_lanes}
use Rattle.model.specs.Step.{advanced, winning, ending_round, offers_of, first_written, second_written, after_second_read, is_last}

-- the cell table and the rack after a step that writes cells
pub record CellsAfter : Type 0 where
  pub cells : Cells
  pub rack : Rack

-- the decision table and the rack after an answer
pub record DecisionsAfter : Type 0 where
  pub decisions : List ℕ
  pub rack : Rack

module _ (s : Size) (cells : Cells) (rack : ℕ) (r : Rack) where
  abbrev pub offering : CellsAfter
  offering = record { cells = offers_of s cells rack r s.lanes; rack = advanced r }

  abbrev pub first_writing : List ℕ → CellsAfter
  first_writing decisions = record { cells = first_written s cells rack r decisions; rack = advanced r }

  abbrev pub second_writing : CellsAfter
  second_writing = record { cells = second_written s cells rack r; rack = advanced r }

  -- "The round's last step also settles every lane."
  unfoldable pub second_reading : Logs → Settled
  second_reading logs =
      let q = after_second_read s cells rack r in
      let done = settle_lanes s rack logs q s.lanes in
      let end : Settled = record { logs = done.logs; rack = ending_round done.rack } in
      cond (is_last s r) end (record { logs = logs; rack = q })

-- "Decision (round, m) becomes q; m is the first lane."
abbrev pub answering : Size → List ℕ → Rack → ℕ → ℕ → DecisionsAfter
answering s decisions r m q = record { decisions = set decisions (decision_index s r.round m) q; rack = winning r m }
