-- The two folds are the test at each number.
use native.Mathlib.Omega.{arith}
use Rattle.sound.proofs.Zeros.{gathered_zeros}
use Rattle.sound.proofs.racks.unused_gathered.Goals as goal

pub returns : goal.returns
returns c =
    rw (c.zero_cells.ensures, c.zero_cells-2.ensures)
    (gathered_zeros c.args.firsts.now c.args.seconds.now (omega (arith, c.told-firsts)) (omega (arith, c.told-seconds)))
