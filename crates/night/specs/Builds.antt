-- Builds that do not do the job: the useless ones, and the errors that look right.
use Rattle.std.specs.Prelude.{List, true, false, cond, not, ◌&&◌, ℕ, suc, ◌-◌, ◌/◌, eqb, ltb, set, Err}
use Rattle.model.specs.declared.Size.{Size}
use Rattle.model.specs.Record.{same_cell, is_committed}
use Rattle.model.specs.Table.{Card, offers, cell_now, decision_at, rack_at}
use Rattle.model.specs.Step.{advanced, ending_round, is_last, step}
use Rattle.model.specs.Kind.{lane_of}
use Rattle.model.specs.Turn.{Outcome, rack_of, lane_named, source_named, turned}
use Rattle.night.specs.Machine.{Machine, card, turning, telling}
use Rattle.night.specs.Rules.{Rules, rules01, turn_with}

-- "One that refuses each turn"
abbrev pub refuses_all : Machine
refuses_all = turning (λ s c turn. record { number = 4; card = c })

-- "or takes it and does nothing"
abbrev pub does_nothing : Machine
does_nothing = turning (λ s c turn. record { number = 0; card = c })

-- "One with constant empty logs"
abbrev pub empty_logs : Machine
empty_logs = telling card.finished (λ s c rack lane. 0) (λ s c rack lane place. Err 9)

-- "One that works in round 1 and then idles": it goes on counting
unfoldable pub idle : Size → Card → ℕ → Outcome
idle s c rack =
    let r = rack_at c.racks rack in
    record { number = 0; card = record { tables = c.tables; racks = set c.racks rack (cond (is_last s r) (ending_round r) (advanced r)) } }

unfoldable pub idling : Size → Card → List ℕ → Outcome
idling s c turn =
    let work = turned s c turn in
    let rest = idle s c (rack_of turn) in
    cond (ltb 1 (rack_at c.racks (rack_of turn)).round) rest work

abbrev pub idles_later : Machine
idles_later = turning idling

-- "One that invents taken, finished or length"
abbrev pub invents_taken : Machine
invents_taken = turning (λ s c turn. record { number = 0; card = (turned s c turn).card })

abbrev pub invents_finished : Machine
invents_finished = telling (λ s c rack. suc (card.finished s c rack)) card.length card.entry

abbrev pub invents_length : Machine
invents_length = telling card.finished (λ s c rack lane. suc (card.length s c rack lane)) card.entry

-- what a log query says is in the list as well: the first entry for every place
abbrev pub invents_entry : Machine
invents_entry = telling card.finished card.length (λ s c rack lane place. card.entry s c rack lane 0)

-- and one that hides them: a turn that it takes is told as refused
abbrev pub hides_taken : Machine
hides_taken = turning (λ s c turn. record { number = 4; card = (turned s c turn).card })

abbrev pub hides_finished : Machine
hides_finished = telling (λ s c rack. card.finished s c rack - 1) card.length card.entry

-- no more than demand 3's lower bound asks for
abbrev pub hides_length : Machine
hides_length = telling card.finished (λ s c rack lane. card.finished s c rack / 2) card.entry

abbrev pub hides_entry : Machine
hides_entry = telling card.finished card.length (λ s c rack lane place. Err 9)

-- "Running a committed value without comparing its place with the log"
abbrev pub without_place : Rules
without_place =
    record { lane = lane_of; teller = rules01.teller; compared = rules01.compared; placed = false; again = rules01.again }

-- "Comparing with the value last held instead of the log length."
abbrev pub last_held : Rules
last_held =
    record { lane = lane_of; teller = rules01.teller; compared = λ L v. v.place; placed = true; again = rules01.again }

-- "Taking only the result's word for a missed cue."
abbrev pub without_news : Rules
without_news =
    record { lane = lane_of; teller = λ c v. c.value; compared = rules01.compared; placed = true; again = rules01.again }

-- "Visiting lanes in rising order although lane m was won"
abbrev pub rising_order : Rules
rising_order =
    record { lane = λ first block. block; teller = rules01.teller; compared = rules01.compared; placed = true; again = rules01.again }

-- "Holding an already run value again after adopting it."
abbrev pub held_again : Rules
held_again =
    record { lane = lane_of; teller = rules01.teller; compared = rules01.compared; placed = true; again = λ c. not (is_committed c) }

-- "a second source is refused even if its value is equal": it takes one
unfoldable pub taking_equal : Size → Card → List ℕ → Outcome
taking_equal s c turn =
    let r = rack_at c.racks (rack_of turn) in
    let lane = lane_named turn in
    let decided = cell_now s c.tables.cells r offers lane (decision_at s c.tables.decisions r.round lane) in
    let named = cell_now s c.tables.cells r offers lane (source_named turn) in
    let work = turn_with rules01 s c turn in
    let second : Outcome = record { number = 0; card = step s c (rack_of turn) lane (source_named turn) } in
    cond (eqb work.number 7 && same_cell named decided) second work

abbrev pub second_source : Machine
second_source = turning taking_equal
