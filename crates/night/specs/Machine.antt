-- A machine of the card's types, and what happens on it in a night.
use Rattle.std.specs.Prelude.{List, [], ◌∷◌, cond, ◌&&◌, ℕ, zero, suc, ◌+◌, ◌-◌, eqb, take, drop}
use Rattle.model.specs.Form.{length_of}
use Rattle.model.specs.declared.Size.{Size}
use Rattle.model.specs.declared.Cue.{Cue}
use Rattle.model.specs.Record.{entry_at}
use Rattle.model.specs.Table.{Card, log_start, log_length, rack_at}
use Rattle.model.specs.Turn.{Outcome, rack_of, turned}
use Rattle.model.specs.Fresh.{fresh_card}
use Rattle.model.specs.Refusal.{Answer}
use Rattle.model.specs.Logs.{log_entry}

-- what it starts from, what a turn does, and what it tells of a card: the rounds that a rack has finished, a log's length, and what a log query
-- is answered for a rack, a lane and a place
pub record Machine : Type 0 where
  pub fresh : Size → Card
  pub turn : Size → Card → List ℕ → Outcome
  pub finished : Size → Card → ℕ → ℕ
  pub length : Size → Card → ℕ → ℕ → ℕ
  pub entry : Size → Card → ℕ → ℕ → ℕ → Answer Cue

-- the card of document 01
abbrev pub card : Machine
card =
    record {
      fresh = fresh_card;
      turn = turned;
      finished = λ s c rack. (rack_at c.racks rack).round - 1;
      length = λ s c rack lane. log_length s c.tables.logs rack lane;
      entry = λ s c rack lane place. log_entry s c.tables.logs rack lane place;
    }

-- a machine that turns so, and is the card else
abbrev pub turning : (Size → Card → List ℕ → Outcome) → Machine
turning turn = record { fresh = card.fresh; turn = turn; finished = card.finished; length = card.length; entry = card.entry }

-- a machine that turns as the card does, and tells so much of what it has reached
abbrev pub telling : (Size → Card → ℕ → ℕ) → (Size → Card → ℕ → ℕ → ℕ) → (Size → Card → ℕ → ℕ → ℕ → Answer Cue) → Machine
telling finished length entry = record { fresh = card.fresh; turn = card.turn; finished = finished; length = length; entry = entry }

module _ (M : Machine) (s : Size) where
  -- the card after a list of turns, oldest first
  unfoldable pub from : Card → List (List ℕ) → Card
  from c [] = c
  from c (turn ∷ turns) = from (M.turn s c turn).card turns

  abbrev pub reached : List (List ℕ) → Card
  reached turns = from (M.fresh s) turns

  -- how many of a rack's turns are taken
  unfoldable pub taken_from : Card → ℕ → List (List ℕ) → ℕ
  taken_from c rack [] = 0
  taken_from c rack (turn ∷ turns) =
      let o = M.turn s c turn in
      cond (eqb o.number 0 && eqb (rack_of turn) rack) 1 0 + taken_from o.card rack turns

  abbrev pub taken : ℕ → List (List ℕ) → ℕ
  taken rack turns = taken_from (M.fresh s) rack turns

  -- a log's bytes, by the form that its table brings: `starts_fresh` and `turns_exact` leave none but the one in use
  unfoldable pub log_bytes : Card → ℕ → ℕ → List ℕ
  log_bytes c rack lane =
      let logs = c.tables.logs in
      take (length_of logs (M.length s c rack lane)) (drop (length_of logs (log_start s rack lane)) logs.bytes)

  -- the entry at a place of a log
  abbrev pub entry_of : Card → ℕ → ℕ → ℕ → Cue
  entry_of c rack lane place = entry_at c.tables.logs (log_start s rack lane + place)

  -- how many of the first entries of a log an issuer has
  unfoldable pub cues_of : Card → ℕ → ℕ → ℕ → ℕ → ℕ
  cues_of c rack lane issuer zero = 0
  cues_of c rack lane issuer (suc place) =
      cues_of c rack lane issuer place + cond (eqb (entry_of c rack lane place).issuer issuer) 1 0

  -- the entries in a rack's first lanes together
  unfoldable pub entries_in : Card → ℕ → ℕ → ℕ
  entries_in c rack zero = 0
  entries_in c rack (suc lane) = entries_in c rack lane + M.length s c rack lane
