-- Texts as bytes.
use Rattle.std.specs.Prelude.{List, [], ◌∷◌, ◌++◌, cond, ℕ, zero, suc, ◌+◌, ◌/◌, ◌%◌, ltb}
use Prim.Native.Char.{code}
use Prim.Native.String.{String}

-- the bytes of a text
abbrev pub ascii : String → List ℕ
ascii String.[] = []
ascii (String.◌∷◌ c cs) = code c ∷ ascii cs

-- a number in decimal, of at most so many digits
abbrev pub digits : ℕ → ℕ → List ℕ
digits zero n = []
digits (suc most) n =
    let front = digits most (n / 10) in
    cond (ltb n 10) ((48 + n) ∷ []) (front ++ ((48 + n % 10) ∷ []))

-- a number in decimal, with no needless zeros
abbrev pub decimal : ℕ → List ℕ
decimal n = digits (suc n) n
