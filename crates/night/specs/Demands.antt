-- The client's demands 2 and 3, of any machine: "From a fresh table, after any sequence of turns, taken or refused, and with any racks stopped".
use Rattle.std.specs.Prelude.{◌≡◌, List, [], ◌∷◌, ◌++◌, ◌⊎◌, ◌↔◌, true, false, cond, ℕ, suc, ◌+◌, ◌-◌, ◌/◌, ◌≤◌, ◌<◌, ltb, eqb, Ok, Err}
use Rattle.model.specs.declared.Size.{Size}
use Rattle.model.specs.declared.Value.{Value}
use Rattle.model.specs.declared.Cell.{Cell}
use Rattle.model.specs.declared.Rack.{Rack}
use Rattle.model.specs.declared.Kind.TheVariants.{SecondRead}
use Rattle.model.specs.Size.{size_fits, block_steps, round_steps}
use Rattle.model.specs.Record.{no_cell, offered, is_empty, is_committed, Cells}
use Rattle.model.specs.Table.{Card, offers, first_cells, read_cell, log_length, undecided, decision_at, rack_at, result_at, news_at}
use Rattle.model.specs.Kind.{kind_of, place_at, lane_at, second_read, steps_in}
use Rattle.model.specs.Step.{after_second_read}
use Rattle.model.specs.Turn.{rack_of, lane_named, source_named, turned}
use Rattle.model.specs.Fresh.{fresh_card}
use Rattle.model.specs.Logs.{one_begins, is_there}
use Rattle.night.specs.Machine.{Machine, reached, taken, log_bytes, entry_of, cues_of, entries_in}

module _ (M : Machine) (s : Size) (turns : List (List ℕ)) where
  -- one of the turns, which a rack takes in a round
  pub record Takes (rack round : ℕ) : Type 0 where
    pub before : List (List ℕ)
    pub turn : List ℕ
    pub later : List (List ℕ)
    pub split : turns ≡ before ++ (turn ∷ later)
    pub is_taken : (M.turn s (reached M s before) turn).number ≡ 0
    pub of_rack : rack_of turn ≡ rack
    pub in_round : (rack_at (reached M s before).racks rack).round ≡ round

  -- the cells and the rack before that turn
  module _ {rack round : ℕ} (at : Takes rack round) where
    abbrev pub cells_then : Cells
    cells_then = (reached M s at.before).tables.cells

    abbrev pub rack_then : Rack
    rack_then = rack_at (reached M s at.before).racks rack

  -- a rack takes its last read in a lane of a round, and these are the result and the news that it gives
  pub record Ends (rack round lane : ℕ) (result : Cell) (news : Value) : Type 0 where
    pub at : Takes rack round
    pub in_lane : lane_at s (rack_then at) ≡ lane
    pub reads : kind_of s (rack_then at).step ≡ SecondRead
    pub last : suc (second_read s (place_at s (rack_then at).step)) ≡ s.racks
    pub gives_result : result_at (after_second_read s (cells_then at) rack (rack_then at)) lane ≡ result
    pub gives_news : news_at (after_second_read s (cells_then at) rack (rack_then at)) lane ≡ news

  -- how many steps a rack has taken in a lane of a round
  abbrev pub steps_taken : ℕ → ℕ → ℕ → ℕ
  steps_taken rack round lane =
      let r = rack_at (reached M s turns).racks rack in
      cond (ltb round r.round) (block_steps s) (cond (eqb round r.round) (steps_in s r lane) 0)

  -- a rack's proposal in a lane of a round stands in its first cell
  abbrev pub first_cell : ℕ → ℕ → ℕ → Cell
  first_cell rack round lane = read_cell s (reached M s turns).tables.cells first_cells round lane rack

  -- "the paper's four adopt-commit properties", of the cells of one round and lane
  pub record AdoptCommit (round lane : ℕ) : Type 0 where
    -- a result's value is a proposal
    pub validity : (rack : ℕ) (result : Cell) (news : Value) → rack < s.racks → Ends rack round lane result news
        → (q : ℕ) × (q < s.racks) × (first_cell q round lane ≡ offered result.value)
    -- where one result is committed, every result has its value
    pub agreement : (p q : ℕ) (result result' : Cell) (news news' : Value) → p < s.racks → q < s.racks
        → Ends p round lane result news → Ends q round lane result' news'
        → is_committed result ≡ true → result'.value ≡ result.value
    -- where all proposals are one value, every result is committed
    pub commitment : (v : Value) → ((q : ℕ) → q < s.racks → (first_cell q round lane ≡ no_cell) ⊎ (first_cell q round lane ≡ offered v))
        → (rack : ℕ) (result : Cell) (news : Value) → rack < s.racks → Ends rack round lane result news → is_committed result ≡ true
    -- a rack that has taken its 2n + 2 steps has a result
    pub progress : (rack : ℕ) → rack < s.racks → steps_taken rack round lane ≡ block_steps s
        → (result : Cell) × (news : Value) × Ends rack round lane result news

  -- a rack takes its answer in a round, "the turn names lane m and source q"
  pub record Answers (rack round lane source : ℕ) : Type 0 where
    pub at : Takes rack round
    pub answers : (rack_then at).step ≡ 1
    pub names_lane : lane_named at.turn ≡ lane
    pub names_source : source_named at.turn ≡ source

  -- what that source had offered there
  module _ {rack round lane source : ℕ} (a : Answers rack round lane source) where
    abbrev pub offer_then : Cell
    offer_then = read_cell s (cells_then a.at) offers round lane source

  -- "k-vector consensus", of the answers that name one lane in a round
  pub record VectorConsensus (round lane : ℕ) : Type 0 where
    -- "a reply names one lane": a rack wins no other in that round
    pub one_lane : (rack lane' source source' : ℕ) → Answers rack round lane source → Answers rack round lane' source' → lane' ≡ lane
    -- "its value was offered at that lane in that round", and stands there from then on
    pub was_offered : (rack source : ℕ) (a : Answers rack round lane source) → is_empty (offer_then a) ≡ false
    pub value_stays : (rack source : ℕ) (a : Answers rack round lane source)
        → read_cell s (reached M s turns).tables.cells offers round lane source ≡ offer_then a
    -- "The value offered by q at m is what this rack proposes in m.": each rack with that first lane
    pub proposed : (p q source source' : ℕ) (a : Answers p round lane source) → Answers q round lane source'
        → 1 ≤ steps_taken q round lane → first_cell q round lane ≡ offer_then a
    -- "no lane has two values"
    pub one_value : (p q source source' : ℕ) (a : Answers p round lane source) (b : Answers q round lane source') → offer_then b ≡ offer_then a
    -- "Decision (round, m) becomes q", and stays so: "a lane has one source in a round"
    pub decided : (rack source : ℕ) → Answers rack round lane source → decision_at s (reached M s turns).tables.decisions round lane ≡ source
    pub one_source : (p q source source' : ℕ) → Answers p round lane source → Answers q round lane source' → source' ≡ source

-- "a reply names one lane, its value was offered at that lane in that round, and no lane has two values. The arbiter is stricter: a lane has
-- one source in a round"
pub record Fits (s : Size) (c : Card) (rack lane source : ℕ) : Type 0 where
  pub lane_there : lane < s.lanes
  pub source_there : source < s.racks
  pub is_offered : is_empty (read_cell s c.tables.cells offers (rack_at c.racks rack).round lane source) ≡ false
  pub one_source : let decision = decision_at s c.tables.decisions (rack_at c.racks rack).round lane in
      (decision ≡ undecided) ⊎ (decision ≡ source)

-- "rounded up"
abbrev pub half_up : ℕ → ℕ
half_up x = (x + 1) / 2

module _ (M : Machine) where
  pub record Demand2 : Type 0 where
    pub starts_fresh : (s : Size) → size_fits s ≡ true → M.fresh s ≡ fresh_card s
    -- "Each taken turn does exactly what document 01's step rules say", and each other is refused as the table says
    pub turns_exact : (s : Size) → size_fits s ≡ true → (turns : List (List ℕ)) (turn : List ℕ)
        → M.turn s (reached M s turns) turn ≡ turned s (reached M s turns) turn
    -- "the cells keep the paper's four adopt-commit properties"
    pub adopt_commit : (s : Size) → size_fits s ≡ true → (turns : List (List ℕ)) (round lane : ℕ) → 1 ≤ round → round ≤ s.rounds → lane < s.lanes
        → AdoptCommit M s turns round lane
    -- "an arbiter reply is admitted exactly when it fits k-vector consensus with one source to a lane"
    pub admitted : (s : Size) → size_fits s ≡ true → (turns : List (List ℕ)) (rack lane source : ℕ) → rack < s.racks
        → (rack_at (reached M s turns).racks rack).round ≤ s.rounds
        → (rack_at (reached M s turns).racks rack).step ≡ 1
        → ((M.turn s (reached M s turns) (rack ∷ lane ∷ source ∷ 0 ∷ [])).number ≡ 0) ↔ Fits s (reached M s turns) rack lane source
    -- and so all that are admitted in a night fit one another
    pub vector_consensus : (s : Size) → size_fits s ≡ true → (turns : List (List ℕ)) (round lane : ℕ) → VectorConsensus M s turns round lane

  pub record Demand3 : Type 0 where
    -- "of two racks' logs of one lane, one begins with the other"
    pub logs_begin : (s : Size) → size_fits s ≡ true → (turns : List (List ℕ)) (p q lane : ℕ) → p < s.racks → q < s.racks → lane < s.lanes
        → one_begins (log_bytes M s (reached M s turns) p lane) (log_bytes M s (reached M s turns) q lane) ≡ true
    -- "in every log each issuer's cues run 1, 2, 3 and on, none missing, none twice"
    pub numbers_run : (s : Size) → size_fits s ≡ true → (turns : List (List ℕ)) (rack lane place : ℕ) → rack < s.racks → lane < s.lanes
        → place < M.length s (reached M s turns) rack lane
        → let c = entry_of M s (reached M s turns) rack lane place in
        c.number ≡ suc (cues_of M s (reached M s turns) rack lane c.issuer place)
    -- "a rack with T turns taken has finished T / (2 + k(2n + 2)) rounds, rounded down"
    pub rounds_finished : (s : Size) → size_fits s ≡ true → (turns : List (List ℕ)) (rack : ℕ) → rack < s.racks
        → M.finished s (reached M s turns) rack ≡ taken M s rack turns / round_steps s
    -- "after f >= 1 finished rounds its lanes together hold at least (f - 1) / 2 entries, rounded up"
    pub entries_held : (s : Size) → size_fits s ≡ true → (turns : List (List ℕ)) (rack : ℕ) → rack < s.racks
        → let f = M.finished s (reached M s turns) rack in
        1 ≤ f → half_up (f - 1) ≤ entries_in M s (reached M s turns) rack s.lanes
    -- "a log's length is the number of its records before the first zero one"
    pub lengths_counted : (s : Size) → size_fits s ≡ true → (turns : List (List ℕ)) (rack lane : ℕ) → rack < s.racks → lane < s.lanes
        → M.length s (reached M s turns) rack lane ≡ log_length s (reached M s turns).tables.logs rack lane
    -- a log query is answered with the entry that stands there, and with 9 where "rack, lane or place not there"
    pub entries_told : (s : Size) → size_fits s ≡ true → (turns : List (List ℕ)) (rack lane place : ℕ)
        → M.entry s (reached M s turns) rack lane place
        ≡ cond (is_there s (reached M s turns).tables.logs rack lane place)
        (Ok (entry_of M s (reached M s turns) rack lane place)) (Err 9)

  pub record Demands : Type 0 where
    pub demand2 : Demand2
    pub demand3 : Demand3
