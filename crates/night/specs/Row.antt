-- A row of the table of nights: a night, and what must come of it.
use mathlib.Core.List.{List, [], ◌∷◌, ◌++◌, flatten}
use Rattle.std.specs.Prelude.{Bool, true, false, ◌&&◌, ℕ, zero, suc, ◌+◌, ◌-◌, eqb, length}
use Prim.Native.String.{String}
use Rattle.laws.specs.Text.{ascii}
use Rattle.model.specs.declared.Size.{Size}
use Rattle.model.specs.declared.Cue.{Cue}
use Rattle.model.specs.declared.Value.{Value}
use Rattle.model.specs.declared.Cell.{Cell}
use Rattle.model.specs.Size.{round_steps}
use Rattle.model.specs.Record.{same_cue, same_value, same_cell, entry_at}
use Rattle.model.specs.Table.{Card, log_start, log_length, rack_at, held_at, result_at}
use Rattle.model.specs.Step.{after_second_read, step}
use Rattle.model.specs.Turn.{Outcome, turned}
use Rattle.model.specs.Fresh.{fresh_card, filled}
use Rattle.model.specs.Night.{after, replies}
use Rattle.model.specs.Sheet.{sheet}
use Rattle.night.specs.Opened.{rules}

-- what may be said of a night
pub data Claim : Type 0 where
  -- what each turn is answered
  answers : List ℕ → Claim
  -- a rack's results, lane by lane, when the night's last turn has read its last cell and before it settles
  results : ℕ → List Cell → Claim
  -- a rack's log in a lane, its held value there, its round and its step
  logs : ℕ → ℕ → List Cue → Claim
  holds : ℕ → ℕ → Value → Claim
  clock : ℕ → ℕ → ℕ → Claim
  -- what the call that fills a fresh table answers
  fills : ℕ → Claim
  -- a round has that many steps, and that many bring rack 0, alone, from a fresh table to its second round, and no fewer
  steps : ℕ → Claim
  -- with these cue bytes, the whole sheet
  prints : List ℕ → String → Claim

-- a night up to its last turn, that turn, and all that is said of it
pub record Row : Type 0 where
  pub size : Size
  pub turns : List (List ℕ)
  pub last : List ℕ
  pub claims : List Claim

abbrev pub same_numbers : List ℕ → List ℕ → Bool
same_numbers [] [] = true
same_numbers [] (y ∷ ys) = false
same_numbers (x ∷ xs) [] = false
same_numbers (x ∷ xs) (y ∷ ys) = eqb x y && same_numbers xs ys

-- the cells stand in the lanes from the given one on
abbrev pub results_from : ℕ → List Cell → (ℕ → Cell) → Bool
results_from lane [] at = true
results_from lane (c ∷ cs) at = same_cell (at lane) c && results_from (suc lane) cs at

-- the entries stand in the log from the given place on
abbrev pub entries_from : ℕ → List Cue → (ℕ → Cue) → Bool
entries_from place [] at = true
entries_from place (c ∷ cs) at = same_cue (at place) c && entries_from (suc place) cs at

-- so many steps of rack 0, which names lane 0 and source 0 when it answers
abbrev pub walk : Size → ℕ → Card
walk s zero = fresh_card s
walk s (suc count) = step s (walk s count) 0 0 0

-- the claim is true of the night: its turns before the last, what they leave and are answered, the last turn, and its outcome
module _ (s : Size) (turns : List (List ℕ)) (before : Card) (numbers : List ℕ) (last : List ℕ) (end : Outcome) where
  abbrev pub holds_true : Claim → Bool
  holds_true (answers expected) = same_numbers (numbers ++ (end.number ∷ [])) expected
  holds_true (results rack cells) = results_from 0 cells (result_at (after_second_read s before.tables.cells rack (rack_at before.racks rack)))
  holds_true (logs rack lane cues) =
      eqb (log_length s end.card.tables.logs rack lane) (length cues)
      && entries_from 0 cues (λ place. entry_at end.card.tables.logs (log_start s rack lane + place))
  holds_true (holds rack lane v) = same_value (held_at (rack_at end.card.racks rack) lane) v
  holds_true (clock rack round step) =
      eqb (rack_at end.card.racks rack).round round && eqb (rack_at end.card.racks rack).step step
  holds_true (fills number) = eqb (filled s before.tables).number number
  holds_true (steps number) =
      eqb (round_steps s) number
      && (eqb (rack_at (walk s number).racks 0).round 2 && eqb (rack_at (walk s (number - 1)).racks 0).round 1)
  holds_true (prints cues text) =
      same_numbers (sheet (s.racks ∷ s.lanes ∷ s.rounds ∷ 0 ∷ []) cues (flatten turns ++ last)) (ascii text)

  abbrev pub all_true : List Claim → Bool
  all_true [] = true
  all_true (claim ∷ claims) = holds_true claim && all_true claims

-- all that is said of the row's night comes of it
unfoldable pub right : Row → Bool
unfolding rules
right row =
    let before = after row.size (fresh_card row.size) row.turns in
    let end = turned row.size before row.last in
    let numbers = replies row.size (fresh_card row.size) row.turns in
    all_true row.size row.turns before numbers row.last end row.claims

abbrev pub all_right : List Row → Bool
all_right [] = true
all_right (row ∷ rows) = right row && all_right rows
