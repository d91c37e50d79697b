-- What `sheet` writes, since it reads turns.rec in parts: each is played and told behind the one before. `proofs/Parts` shows that together
-- this is the text of the night.
use Rattle.std.specs.Prelude.{◌≡◌, List, [], ◌∷◌, ◌++◌, ℕ, ◌+◌, ◌*◌, ◌-◌, length}
use Rattle.model.specs.declared.Size.{Size}
use Rattle.model.specs.Table.{Card}
use Rattle.model.specs.Fresh.{fresh_card}
use Rattle.model.specs.Night.{after, replies, pieces}
use Rattle.model.specs.Sheet.{size_line, refused_lines, taken_in, turns_line, rack_lines}

-- a night so far: its card, how many turns were read and taken, and the refused lines
pub record Playing : Type 0 where
  pub card : Card
  pub read : ℕ
  pub taken : ℕ
  pub text : List ℕ

-- one part more
unfoldable pub play_part : Size → Playing → List ℕ → Playing
play_part s p part =
    let turns = pieces part in
    let numbers = replies s p.card turns in
    record {
      card = after s p.card turns;
      read = p.read + length turns;
      taken = p.taken + taken_in numbers;
      text = p.text ++ refused_lines p.read numbers;
    }

unfoldable pub play_parts : Size → Playing → List (List ℕ) → Playing
play_parts s p [] = p
play_parts s p (part ∷ parts) = play_parts s (play_part s p part) parts

-- the size line, the refused lines of each part, the line of turns, and the logs
unfoldable pub parts_text : Size → List ℕ → List (List ℕ) → List ℕ
parts_text s lists parts =
    let p = play_parts s (record { card = fresh_card s; read = 0; taken = 0; text = [] }) parts in
    size_line s ++ (p.text ++ (turns_line p.read p.taken (p.read - p.taken) ++ rack_lines s lists p.card s.racks))

-- the bytes of all parts
unfoldable pub joined : List (List ℕ) → List ℕ
joined [] = []
joined (part ∷ parts) = part ++ joined parts

-- every part but the last has the same length, a number of whole records
unfoldable pub Whole : ℕ → List (List ℕ) → Type 0
Whole records [] = Unit {0}
Whole records (part ∷ []) = Unit {0}
Whole records (part ∷ next ∷ parts) = (length part ≡ 4 * records) × Whole records (next ∷ parts)
