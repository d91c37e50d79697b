-- A refused call hands back zeros.
use Rattle.std.proofs.Common.{◌≡◌, arith}
use Rattle.std.proofs.lemmas.Grind.{common_steps}
use Rattle.model.specs.Fresh.{zero_rack}
use Rattle.ports.proofs.night_fresh.Goals as goal

pub returns-in-Err : goal.returns-in-Err
returns-in-Err c =
    let none : c.default.result ≡ zero_rack = grind (arith, common_steps) in
    rw (c.into.ensures, none) c.in-Err.ensures
