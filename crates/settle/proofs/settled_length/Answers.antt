-- The length grows as the two rules say.
use native.Mathlib.Numerals.{add-one}
use native.Mathlib.Omega.{arith}
use Rattle.model.specs.InUse.{logs_of}
use Rattle.model.proofs.Length.{length_most}
use Rattle.settle.specs.Fits.{log_at}
use Rattle.settle.proofs.Lane.{grown_by, settled_length_is}
use Rattle.settle.proofs.settled_length.Goals as goal

pub overflow_add-missed : goal.overflow_add-missed
overflow_add-missed c =
    let a = c.args in
    omega (arith, length_most (logs_of a.logs.now) a.start a.rounds)

pub returns : goal.returns
returns c =
    let a = c.args in
    rw (settled_length_is (log_at (logs_of a.logs.now) a.start a.rounds) a.res a.news)
    (rw (c.from-2.ensures, c.from.ensures, c.is_committed.ensures, grown_by, grown_by, c.length_from-before.ensures, add-one))
