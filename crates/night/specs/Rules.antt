-- The step rules with some of them left open, so that a build can have one of them wrong.
use Rattle.std.specs.Prelude.{List, Bool, true, false, cond, not, ◌&&◌, ◌||◌, ℕ, zero, suc, ◌+◌, eqb, set}
use Rattle.model.specs.declared.Size.{Size}
use Rattle.model.specs.declared.Value.{Value}
use Rattle.model.specs.declared.Cell.{Cell}
use Rattle.model.specs.declared.Rack.{Rack}
use Rattle.model.specs.declared.Kind.{Kind}
use Rattle.model.specs.declared.Kind.TheVariants.{Offer, Answer, FirstWrite, FirstRead, SecondWrite, SecondRead}
use Rattle.model.specs.Record.{offered, is_committed, Logs}
use Rattle.model.specs.Table.{Tables, Card, offers, first_cells, second_cells, write_cell, decision_at, rack_at, held_at, result_at, news_at, cell_now}
use Rattle.model.specs.Kind.{block_at, place_at, kind_of, lane_of, first_read, second_read}
use Rattle.model.specs.Block.{second_cell, result_of, news}
use Rattle.model.specs.Settle.{Log, Settled, log_of, append, state_of, own_next, holding}
use Rattle.model.specs.Step.{After, advanced, gathering_first, gathering_second, ending_block, ending_round, with_cells, offers_of, answered, is_last}
use Rattle.model.specs.Turn.{Outcome, bad_record, rack_of, lane_named, source_named, finished, misnamed, not_offered, decided_else}
use Rattle.night.specs.Machine.{Machine, turning}

pub record Rules : Type 0 where
  -- the lane of a block, from the first lane
  pub lane : ℕ → ℕ → ℕ
  -- what tells of a missed cue, from the result and the news
  pub teller : Cell → Value → Value
  -- what places are compared with in rules 1 and 2, from L and the value last held
  pub compared : ℕ → Value → ℕ
  -- whether rule 2 looks at the place
  pub placed : Bool
  -- whether rule 3 holds such a result whatever its place
  pub again : Cell → Bool

-- the rules of document 01
abbrev pub rules01 : Rules
rules01 = record { lane = lane_of; teller = λ c v. v; compared = λ L v. L; placed = true; again = λ c. false }

module _ (rules : Rules) (s : Size) (rack : ℕ) where
  -- settling
  abbrev pub missed_by : Log → Value → Cell → Value → Log
  missed_by log held c v =
      let told = rules.teller c v in
      cond (eqb told.place (suc (rules.compared log.length held))) (append log told.previous) log

  abbrev pub committed_by : Log → Value → Cell → Log
  committed_by log held c =
      cond (is_committed c && (not rules.placed || eqb c.value.place (rules.compared log.length held)))
      (append log c.value.cue) log

  abbrev pub held_by : Log → Cell → Value
  held_by log c =
      cond (rules.again c || eqb c.value.place log.length) c.value (own_next rack (state_of rack log))

  unfoldable pub lane_by : Logs → Rack → ℕ → Settled
  lane_by logs r lane =
      let log =
      committed_by (missed_by (log_of s logs rack lane) (held_at r lane) (result_at r lane) (news_at r lane)) (held_at r lane)
      (result_at r lane)
      in
      record { logs = log.table; rack = holding r lane (held_by log (result_at r lane)) }

  unfoldable pub lanes_by : Logs → Rack → ℕ → Settled
  lanes_by logs r zero = record { logs = logs; rack = r }
  lanes_by logs r (suc lane) = let done = lanes_by logs r lane in lane_by done.logs done.rack lane

  -- a step
  module _ (t : Tables) (r : Rack) where
    abbrev pub lane_now : ℕ
    lane_now = rules.lane r.first (block_at s r.step)

    abbrev pub place_now : ℕ
    place_now = place_at s r.step

    abbrev pub cell_by : ℕ → ℕ → Cell
    cell_by section q = cell_now s t.cells r section lane_now q

    abbrev pub own_by : Value
    own_by = (cell_by first_cells rack).value

    abbrev pub proposal_by : Value
    proposal_by =
        cond (eqb lane_now r.first) (cell_by offers (decision_at s t.decisions r.round lane_now)).value (held_at r lane_now)

    abbrev pub gathered_by : Rack
    gathered_by = let q = second_read s place_now in gathering_second r q (cell_by second_cells q)

    unfoldable pub read_by : Rack
    read_by =
        let ended =
        ending_block gathered_by lane_now
        (result_of gathered_by.seconds own_by (cell_by second_cells rack).value s.racks)
        (news gathered_by.firsts gathered_by.seconds s.racks)
        in
        cond (eqb (second_read s place_now + 1) s.racks) ended gathered_by

    abbrev pub settled_by : After
    settled_by =
        let done = lanes_by t.logs read_by s.lanes in
        record { tables = record { cells = t.cells; logs = done.logs; decisions = t.decisions }; rack = ending_round done.rack }

    unfoldable pub step_with : Kind → ℕ → ℕ → After
    step_with Offer m q = record { tables = with_cells s t rack r (offers_of s t.cells rack r s.lanes); rack = advanced r }
    step_with Answer m q = answered s t rack r m q
    step_with FirstWrite m q =
        record {
          tables = with_cells s t rack r (write_cell s t.cells first_cells r.round lane_now rack (offered proposal_by));
          rack = advanced r;
        }
    step_with FirstRead m q =
        let p = first_read place_now in
        record { tables = t; rack = gathering_first r p (cell_by first_cells p) }
    step_with SecondWrite m q =
        record {
          tables =
              with_cells s t rack r
              (write_cell s t.cells second_cells r.round lane_now rack (second_cell r.firsts own_by s.racks));
          rack = advanced r;
        }
    step_with SecondRead m q =
        let end = settled_by in
        cond (is_last s r) end (record { tables = t; rack = read_by })

    -- its refusals: a build that has a rule wrong does not find its own tables unsound; with the right rules 1, 2 and 8 never come
    unfoldable pub refusal_with : ℕ → ℕ → ℕ
    refusal_with m q =
        cond (finished s r) 4
        (cond (misnamed s r m q) 5 (cond (not_offered s r t.cells m q) 6 (cond (decided_else s r t.decisions m q) 7 0)))

-- a build with such rules
unfoldable pub turn_with : Rules → Size → Card → List ℕ → Outcome
turn_with rules s c turn =
    let rack = rack_of turn in
    let r = rack_at c.racks rack in
    let number = cond (bad_record s turn) 3 (refusal_with rules s rack c.tables r (lane_named turn) (source_named turn)) in
    let after = step_with rules s rack c.tables r (kind_of s r.step) (lane_named turn) (source_named turn) in
    let stepped : Outcome = record { number = 0; card = record { tables = after.tables; racks = set c.racks rack after.rack } } in
    cond (eqb number 0) stepped (record { number = number; card = c })

abbrev pub build_with : Rules → Machine
build_with rules = turning (turn_with rules)
