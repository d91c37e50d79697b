-- A cue record is judged in two parts: alone, and by the room in its list.
use Rattle.std.specs.Prelude.{◌≡◌, List, Bool, cond, not, ◌&&◌, ◌||◌, ℕ, ◌+◌, ◌*◌, ◌≤◌, eqb, leb, length, get_or}
use Rattle.model.specs.Cues.{Listed, list_most, list_start, list_length, listed}

-- "rack, lane or code out of range .. or a short record"
unfoldable pub out_of_range : ℕ → ℕ → List ℕ → Bool
out_of_range n k cue =
    not (eqb (length cue) 4)
    || (leb n (get_or cue 0 0) || (leb k (get_or cue 1 0) || (eqb (get_or cue 2 0) 0 && eqb (get_or cue 3 0) 0)))

-- a whole record whose list lies within the lists
pub record Placed (k : ℕ) (all cue : List ℕ) : Type 0 where
  pub whole : length cue ≡ 4
  pub within : 2 * (list_start k (get_or cue 0 0) (get_or cue 1 0) + list_most) ≤ length all

-- such a record is "a 65th cue", or goes to the end of its list
unfoldable pub list_cue : ℕ → List ℕ → List ℕ → Listed
list_cue k lists cue =
    cond (leb list_most (list_length k lists (get_or cue 0 0) (get_or cue 1 0))) (record { number = 10; lists = lists })
    (record { number = 0; lists = listed k lists cue })
