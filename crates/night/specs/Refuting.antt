-- The nights on which the builds fail. A night here is a list of turn records, oldest first.
use Rattle.std.specs.Prelude.{List, [], ◌∷◌, ◌++◌, ℕ, replicate}
use Rattle.model.specs.declared.Size.{Size}
use Rattle.night.specs.Rows.{sized, turn, answer, begun, p10}

-- so many turns of a rack that are no answers
abbrev pub turns : ℕ → ℕ → List (List ℕ)
turns rack count = replicate count (turn rack)

abbrev pub answers : ℕ → ℕ → ℕ → List (List ℕ)
answers rack lane source = answer rack lane source ∷ []

-- n = k = 1: a round is 6 steps, all of rack 0
abbrev pub alone : ℕ → Size
alone R = sized 1 1 R

abbrev pub round : List (List ℕ)
round = begun 0 0 0 4

-- n = k = 2
abbrev pub pair : ℕ → Size
pair R = sized 2 2 R

-- P10's night, whole: rack 1 does round 2 first; rack 0 names source 0 and is refused, then source 1, and commits 0#1 again in lane 0
abbrev pub committed_again : List (List ℕ)
committed_again = p10.turns ++ (p10.last ∷ [])

-- rack 0 adopts the older value twice and hears of the newer one only through news: after two rounds it has no entry
abbrev pub older_value : List (List ℕ)
older_value =
    turns 0 1 ++ (answers 0 0 0 ++ (turns 0 2
    ++ (turns 1 1 ++ (answers 1 1 1 ++ (turns 1 13 ++ (answers 1 0 1 ++ (turns 1 4
    ++ (turns 0 10 ++ (turns 1 1 ++ (turns 0 1 ++ (answers 0 1 0 ++ (turns 0 4 ++ (turns 1 6 ++ turns 0 8)))))))))))))

-- in lanes visited in rising order two racks come upon each other in every block: two rounds commit nothing
abbrev pub come_upon : List (List ℕ)
come_upon =
    turns 1 1 ++ (answers 1 0 1 ++ (turns 1 1
    ++ (turns 0 1 ++ (answers 0 1 0 ++ (turns 0 8
    ++ (turns 1 12 ++ (answers 1 1 1 ++ (turns 1 8 ++ (turns 0 5 ++ (answers 0 0 0 ++ turns 0 12))))))))))

-- rack 0 adopts a value that it has run, and offers it again: after four rounds it has one entry
abbrev pub run_before : List (List ℕ)
run_before =
    turns 0 1 ++ (answers 0 0 0 ++ (turns 0 9
    ++ (turns 1 1 ++ (answers 1 1 1 ++ (turns 1 13 ++ (answers 1 0 1 ++ (turns 1 7
    ++ (turns 0 4 ++ (answers 0 1 0 ++ (turns 0 13 ++ (answers 0 0 0 ++ (turns 0 9
    ++ (turns 1 6 ++ (answers 1 1 1 ++ (turns 1 13 ++ (answers 1 1 1 ++ (turns 1 1
    ++ (turns 0 4 ++ (answers 0 0 1 ++ turns 0 12)))))))))))))))))))

-- rack 0 reads second cells of lane 1 only after rack 1 has written there, and so both hold 0#1: in round 2 both offer it
abbrev pub equal_offers : List (List ℕ)
equal_offers = begun 0 0 0 10 ++ (begun 1 1 1 12 ++ (turns 0 3 ++ turns 1 1))
