-- The products are small, as the sizes are.
use native.Mathlib.Omega.{arith}
use borrow.Author.Rules.{rules}
use Rattle.model.specs.Table.{log_start}
use Rattle.model.proofs.Start.{row_small, start_small}
use Rattle.model.proofs.logs.log_start.Goals as goal

pub overflow_mul-result : goal.overflow_mul-result
overflow_mul-result c =
    let p = c.requires in
    let a = c.args in
    omega (arith, row_small a.size a.rack a.lane p.0 p.1.0 p.1.1)

pub overflow_add-result : goal.overflow_add-result
overflow_add-result c =
    let p = c.requires in
    let a = c.args in
    omega (arith, row_small a.size a.rack a.lane p.0 p.1.0 p.1.1)

pub overflow_mul-result-2 : goal.overflow_mul-result-2
overflow_mul-result-2 c =
    let p = c.requires in
    let a = c.args in
    omega (arith, start_small a.size a.rack a.lane p.0 p.1.0 p.1.1)

pub returns : goal.returns
unfolding log_start
returns c = search rules
