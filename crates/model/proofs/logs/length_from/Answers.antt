-- The invariant: the length is the records passed, and the length from there on.
use Prim.Native.Nat.{◌+◌, ◌-◌}
use mathlib.Core.Path.{sym, ◌∙◌}
use native.Mathlib.Omega.{arith}
use Rattle.model.specs.InUse.{logs_of}
use Rattle.model.proofs.Length.{length_zero, length_next, length_most}
use Rattle.model.proofs.logs.length_from.Goals as goal

pub returns-then-zero_at : goal.returns-then-zero_at
returns-then-zero_at c =
    let a = c.args in
    let i = c.loop-i.i in
    let none = length_zero (logs_of a.table.now) (a.at + i) (a.most - i) (sym c.zero_at.ensures ∙ c.if-zero_at.true) in
    omega (arith, c.loop-i.invariant.1)

pub loop-i-preserved : goal.loop-i-preserved
loop-i-preserved c =
    let a = c.args in
    let one =
    length_next (logs_of a.table.now) a.at c.loop-i.i a.most c.loop-i-test.true
    (sym c.zero_at.ensures ∙ c.if-zero_at.false)
    in
    (omega arith, omega (arith, c.loop-i.invariant.1))

pub returns : goal.returns
returns c =
    let a = c.args in
    let i = c.loop-i.i in
    let none = length_most (logs_of a.table.now) (a.at + i) (a.most - i) in
    omega (arith, c.loop-i.invariant.1)
