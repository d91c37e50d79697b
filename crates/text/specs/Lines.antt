-- The texts that lines are made of, and the room for a line.
use Rattle.std.specs.Prelude.{List, [], ◌∷◌, ◌++◌, ℕ, ◌+◌, ◌/◌, ◌%◌, ◌≤◌, length}
use Rattle.laws.specs.Text.{decimal}

-- both digits of a number below 100
abbrev pub two_digits : ℕ → List ℕ
two_digits x = (48 + x / 10) ∷ (48 + x % 10) ∷ []

-- a number and the byte behind it
unfoldable pub ended : ℕ → ℕ → List ℕ
ended x end = decimal x ++ (end ∷ [])

-- a word, a number and the byte behind it
unfoldable pub named : List ℕ → ℕ → ℕ → List ℕ
named word x end = word ++ ended x end

-- how long a line is at most, with every number below 2 ^ 64
abbrev pub line_most : ℕ
line_most = 128

-- a page of so many bytes has room for any line behind its text
abbrev pub LineRoom : ℕ → List ℕ → Type 0
LineRoom most text = length text + line_most ≤ most

-- a text grew by at most a line
abbrev pub LineMore : List ℕ → List ℕ → Type 0
LineMore before after = length after ≤ length before + line_most
