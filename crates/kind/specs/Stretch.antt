-- A match takes constant bounds only, so it is over the step as it would be numbered with eight racks and in the first block.
use Rattle.std.specs.Prelude.{cond, ℕ, ◌+◌, ◌-◌, ltb, leb}
use Rattle.model.specs.declared.Size.{Size}
use Rattle.model.specs.Size.{leading}
use Rattle.model.specs.Kind.{place_at}

-- places up to the last first cell read keep their number; those after it move on by as many racks as there are fewer than eight
unfoldable pub stretch : Size → ℕ → ℕ
stretch s step =
    cond (ltb step leading) step
    (cond (leb (place_at s step) s.racks) (place_at s step + 2) (place_at s step + 10 - s.racks))
