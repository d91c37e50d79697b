-- Test 1 as the calls make it: on the sizes and the lengths of what is lent.
use Rattle.std.specs.Prelude.{Bool, ◌&&◌, ℕ, eqb}
use Rattle.model.specs.declared.Size.{Size}
use Rattle.model.specs.Size.{size_fits, decisions_length}
use Rattle.model.specs.InUse.{cells_length, logs_length}

-- "n, k or R outside its range, or a lent length not exact": neither
unfoldable pub lengths_fit : Size → ℕ → ℕ → ℕ → Bool
lengths_fit s cells logs decisions =
    size_fits s && (eqb cells (cells_length s) && (eqb logs (logs_length s) && eqb decisions (decisions_length s)))

unfoldable pub logs_fit : Size → ℕ → Bool
logs_fit s logs = size_fits s && eqb logs (logs_length s)
