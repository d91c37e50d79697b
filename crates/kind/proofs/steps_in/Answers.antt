-- The start of a block is at most 4 blocks on.
use Rattle.laws.proofs.Index.{product_le}
use Rattle.kind.proofs.Places.{block_of_most, steps_most}
use native.Mathlib.Omega.{arith}
use Rattle.kind.proofs.steps_in.Goals as goal

pub overflow_mul-start : goal.overflow_mul-start
overflow_mul-start c =
    let a = block_of_most c.args.r.first c.args.lane in
    let p =
    product_le {a = c.block_of.result} {b = c.block_steps-whole.result} {x = 4} {y = 18}
    (rw c.block_of.ensures (omega arith))
    (rw c.block_steps-whole.ensures (steps_most c.args.size c.requires.0))
    in
    omega arith
