-- "Nights to check": the rows marked P, and the sheet example.
use Rattle.std.specs.Prelude.{List, [], ◌∷◌, ◌++◌, ℕ, replicate}
use Rattle.model.specs.declared.Size.{Size}
use Rattle.model.specs.declared.Cue.{Cue}
use Rattle.model.specs.declared.Value.{Value}
use Rattle.model.specs.Record.{no_cue, adopted, committed}
use Rattle.night.specs.Row.{Row, answers, results, logs, holds, clock, fills, steps, prints}

-- n racks, k lanes, R rounds
abbrev pub sized : ℕ → ℕ → ℕ → Size
sized n k R = record { racks = n; lanes = k; rounds = R }

-- a turn that is no answer, and one that is
abbrev pub turn : ℕ → List ℕ
turn rack = rack ∷ 255 ∷ 255 ∷ 0 ∷ []

abbrev pub answer : ℕ → ℕ → ℕ → List ℕ
answer rack lane source = rack ∷ lane ∷ source ∷ 0 ∷ []

-- the first turns of a rack's round: its offer, its answer, and so many more
abbrev pub begun : ℕ → ℕ → ℕ → ℕ → List (List ℕ)
begun rack lane source more = turn rack ∷ answer rack lane source ∷ replicate more (turn rack)

-- that many turns are taken, or that many and then the answer
abbrev pub taken : ℕ → List ℕ
taken count = replicate count 0

-- a row for a size: a first turn is answered so, and so is the call that fills a fresh table
abbrev pub first : Size → ℕ → Row
first s number = record { size = s; turns = []; last = turn 0; claims = answers (number ∷ []) ∷ fills number ∷ [] }

-- a row for the steps of a round
abbrev pub round : Size → ℕ → Row
round s count = record { size = s; turns = []; last = turn 0; claims = answers (0 ∷ []) ∷ steps count ∷ [] }

-- "the sheet example": size.rec 1 1 1 0
abbrev pub one : Size
one = sized 1 1 1

-- "n = k = 2, R = 4."
abbrev pub two : Size
two = sized 2 2 4

-- "Rack 0 does round 1 alone, winning lane 0 from itself."
abbrev pub zero_first : List (List ℕ)
zero_first = begun 0 0 0 12

-- "Rack 1 then does round 1, winning lane 1 from itself."
abbrev pub both_first : List (List ℕ)
both_first = zero_first ++ begun 1 1 1 12

abbrev pub «0#1» : Cue
«0#1» = record { issuer = 0; number = 1 }

abbrev pub «0#2» : Cue
«0#2» = record { issuer = 0; number = 2 }

-- 0#1 at place 0, and at place 1 the cue that follows it
abbrev pub start : Value
start = record { place = 0; cue = «0#1»; previous = no_cue }

abbrev pub next : Value
next = record { place = 1; cue = «0#2»; previous = «0#1» }

-- "n = 1, k = 1: a round is 6 steps."
abbrev pub p1 : Row
p1 = round (sized 1 1 1) 6

-- "n = 2, k = 2: 14."
abbrev pub p2 : Row
p2 = round (sized 2 2 1) 14

-- "n = 8, k = 4: 74."
abbrev pub p3 : Row
p3 = round (sized 8 4 1) 74

-- "n = 0 is refused with 1; n = 8 is taken; n = 9 is refused with 1."
abbrev pub p4_none : Row
p4_none = first (sized 0 1 1) 1

abbrev pub p4_most : Row
p4_most = first (sized 8 1 1) 0

abbrev pub p4_over : Row
p4_over = first (sized 9 1 1) 1

-- "R = 64 is taken, 65 refused with 1."
abbrev pub p5_most : Row
p5_most = first (sized 1 1 64) 0

abbrev pub p5_over : Row
p5_over = first (sized 1 1 65) 1

-- "a 7th turn in the sheet example gets 4."
abbrev pub p6 : Row
p6 =
    record {
      size = one;
      turns = begun 0 0 0 4;
      last = turn 0;
      claims = answers (taken 6 ++ (4 ∷ [])) ∷ clock 0 2 0 ∷ logs 0 0 («0#1» ∷ []) ∷ [];
    }

-- "rack 0's first turn with lane 0 instead of 255 gets 5."
abbrev pub p7 : Row
p7 = record { size = one; turns = []; last = answer 0 0 255; claims = answers (5 ∷ []) ∷ clock 0 1 0 ∷ logs 0 0 [] ∷ [] }

-- "it commits 0#1 in both lanes."
abbrev pub p8 : Row
p8 =
    record {
      size = two;
      turns = begun 0 0 0 11;
      last = turn 0;
      claims =
          answers (taken 14)
          ∷ results 0 (committed start ∷ committed start ∷ [])
          ∷ logs 0 0 («0#1» ∷ [])
          ∷ logs 0 1 («0#1» ∷ [])
          ∷ holds 0 0 next
          ∷ holds 0 1 next
          ∷ clock 0 2 0
          ∷ [];
    }

-- "it adopts 0#1 in both lanes, with empty logs."
abbrev pub p9 : Row
p9 =
    record {
      size = two;
      turns = zero_first ++ begun 1 1 1 11;
      last = turn 1;
      claims =
          answers (taken 28)
          ∷ results 1 (adopted start ∷ adopted start ∷ [])
          ∷ logs 1 0 []
          ∷ logs 1 1 []
          ∷ holds 1 0 start
          ∷ holds 1 1 start
          ∷ clock 1 2 0
          ∷ [];
    }

-- "From there, rack 1 does round 2 first, winning lane 0 from itself: it commits 0#1."
abbrev pub p10_before : Row
p10_before =
    record {
      size = two;
      turns = both_first ++ begun 1 0 1 11;
      last = turn 1;
      claims =
          answers (taken 42)
          ∷ results 1 (committed start ∷ committed start ∷ [])
          ∷ logs 1 0 («0#1» ∷ [])
          ∷ logs 1 1 («0#1» ∷ [])
          ∷ clock 1 3 0
          ∷ [];
    }

-- "rack 0 then names lane 0, source 0: refused with 7. With source 1, in lane 0, it commits 0#1 again, appends nothing and holds 0#2 at place 1."
abbrev pub p10 : Row
p10 =
    record {
      size = two;
      turns = both_first ++ begun 1 0 1 12 ++ (turn 0 ∷ answer 0 0 0 ∷ answer 0 0 1 ∷ replicate 11 (turn 0));
      last = turn 0;
      claims =
          answers (taken 43 ++ (7 ∷ taken 13))
          ∷ results 0 (committed start ∷ adopted start ∷ [])
          ∷ logs 0 0 («0#1» ∷ [])
          ∷ logs 0 1 («0#1» ∷ [])
          ∷ holds 0 0 next
          ∷ holds 0 1 next
          ∷ clock 0 3 0
          ∷ [];
    }

-- "Or rack 0 does round 2 first, winning lane 0 from itself: logs 0#1, 0#2."
abbrev pub p11_before : Row
p11_before =
    record {
      size = two;
      turns = both_first ++ begun 0 0 0 11;
      last = turn 0;
      claims =
          answers (taken 42)
          ∷ results 0 (committed next ∷ committed next ∷ [])
          ∷ logs 0 0 («0#1» ∷ «0#2» ∷ [])
          ∷ logs 0 1 («0#1» ∷ «0#2» ∷ [])
          ∷ clock 0 3 0
          ∷ [];
    }

-- "Rack 1 wins lane 1 from itself. .. it adopts 0#2, appends 0#1 and holds 0#2."
abbrev pub p11 : Row
p11 =
    record {
      size = two;
      turns = both_first ++ begun 0 0 0 12 ++ begun 1 1 1 11;
      last = turn 1;
      claims =
          answers (taken 56)
          ∷ results 1 (adopted next ∷ adopted next ∷ [])
          ∷ logs 1 0 («0#1» ∷ [])
          ∷ logs 1 1 («0#1» ∷ [])
          ∷ holds 1 0 next
          ∷ holds 1 1 next
          ∷ clock 1 3 0
          ∷ [];
    }

-- "If it wins lane 0 from rack 0 instead, .. in lane 0 it appends 0#1 and 0#2 in one round."
abbrev pub p12 : Row
p12 =
    record {
      size = two;
      turns = both_first ++ begun 0 0 0 12 ++ begun 1 0 0 11;
      last = turn 1;
      claims =
          answers (taken 56)
          ∷ results 1 (committed next ∷ adopted next ∷ [])
          ∷ logs 1 0 («0#1» ∷ «0#2» ∷ [])
          ∷ logs 1 1 («0#1» ∷ [])
          ∷ clock 1 3 0
          ∷ [];
    }

-- "The sheet": "the whole output is"
abbrev pub example : Row
example =
    record {
      size = one;
      turns = begun 0 0 0 3;
      last = turn 0;
      claims =
          prints (0 ∷ 0 ∷ 17 ∷ 0 ∷ [])
          "racks 1 lanes 1 rounds 1\nturns 6 taken 6 refused 0\nlog 0 0 finished 1 length 1\n0 0 1 17\n"
          ∷ [];
    }

abbrev pub rows : List Row
rows =
    p1 ∷ p2 ∷ p3 ∷ p4_none ∷ p4_most ∷ p4_over ∷ p5_most ∷ p5_over ∷ p6 ∷ p7 ∷ p8 ∷ p9 ∷ p10_before ∷ p10 ∷ p11_before ∷ p11 ∷ p12 ∷ example ∷ []
