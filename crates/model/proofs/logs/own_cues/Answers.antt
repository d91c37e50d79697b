-- The invariant: the count among the records passed, which is at most as many as they are.
use native.Mathlib.Omega.{arith}
use native.Mathlib.Numerals.{add-one}
use borrow.Author.Rules.{rules}
use Rattle.model.specs.Settle.{own_cues}
use Rattle.model.specs.InUse.{logs_of}
use Rattle.model.proofs.Length.{own_most}
use borrow.Author.Tests.{eq-eqb, ne_eqb}
use Rattle.model.proofs.logs.own_cues.Goals as goal
use Rattle.model.proofs.logs.own_cues.Goals.{then-entry-rack, else-entry-rack}

pub loop-i-init : goal.loop-i-init
unfolding own_cues
loop-i-init c = search rules

pub overflow_add-own : goal.overflow_add-own
overflow_add-own c = omega (arith, own_most (logs_of c.args.table.now) c.args.start c.args.rack c.loop-i.i, c.loop-i.invariant.1)

pub loop-i-preserved : goal.loop-i-preserved
unfolding own_cues
loop-i-preserved c = (
  omega arith,
  rw add-one
      (elim c.if-entry-rack.branch [
        | then-entry-rack w ↦ rw (w.own-is, ← c.entry.ensures, eq-eqb _ _ w.if-entry-rack.true, c.loop-i.invariant.1)
        | else-entry-rack w ↦ rw (w.own-is, ← c.entry.ensures, ne_eqb _ _ w.if-entry-rack.false, c.loop-i.invariant.1) (omega arith)
      ]),
)
