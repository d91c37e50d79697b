-- A part of turns.rec played and told: the card afterwards, the refused lines, and how many turns were taken.
use Rattle.std.specs.Prelude.{◌≡◌, List, [], true, cond, ℕ, ◌+◌, ◌*◌, ◌≤◌, ◌<◌, ◌^◌, eqb, length}
use Rattle.model.specs.declared.Size.{Size}
use Rattle.model.specs.Table.{Card}
use Rattle.model.specs.Shape.{Shape}
use Rattle.model.specs.Sound.{sound}
use Rattle.model.specs.Turn.{fits}
use Rattle.model.specs.Night.{after, replies, pieces}
use Rattle.model.specs.Sheet.{refused_line, refused_lines, taken_in}
use Rattle.text.specs.Written.{Written, write}

pub record Telling : Type 0 where
  pub card : Card
  pub text : Written
  pub taken : ℕ

-- turns played and told: each refused line behind the other from a place on, the count of turns taken added to what it was
unfoldable pub tell_turns : Size → Card → List ℕ → ℕ → ℕ → ℕ → List (List ℕ) → Telling
tell_turns s card out place index taken turns =
    let numbers = replies s card turns in
    record {
      card = after s card turns;
      text = write out place (refused_lines index numbers);
      taken = taken + taken_in numbers;
    }

-- the line of one reply, none if it is 0
unfoldable pub reply_text : ℕ → ℕ → List ℕ
reply_text index number = cond (eqb number 0) [] (refused_line index number)

-- what a part of turns.rec requires: a card that fits and is sound, of the shape that its type says, and room for a line of each record
pub record TurnsReady (s : Size) (card : Card) (bytes out : List ℕ) (index : ℕ) : Type 0 where
  pub shape : Shape card
  pub fit : fits s card.tables ≡ true
  pub ok : sound s card ≡ true
  pub room : 128 * length (pieces bytes) ≤ length out
  pub few : index + length (pieces bytes) < 2 ^ 64
