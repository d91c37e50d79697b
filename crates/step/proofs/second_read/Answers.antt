-- The test on the way is the definition's own; the round still is the rack's when it ends, so it rises without wrapping.
use mathlib.Core.Path.{sym, ◌∙◌}
use native.Mathlib.Omega.{arith}
use Rattle.step.specs.After.{second_reading}
use Rattle.step.proofs.Places.{racks_few, lanes_few}
use Rattle.step.proofs.Arms.{ended_round}
use Rattle.step.proofs.second_read.Goals as goal

pub is_last-requires : goal.is_last-requires
is_last-requires c =
    let a = c.requires.block.at.round in
    (racks_few a, lanes_few a)

pub returns-then-not-is_last : goal.returns-then-not-is_last
unfolding second_reading
returns-then-not-is_last c = rw (c.after_second_read-read.ensures, sym c.is_last.ensures ∙ c.if-not-is_last.true)

pub round_ended-requires : goal.round_ended-requires
round_ended-requires c = omega (arith, ended_round _ _ _ _ _ _ c.requires.block.at.round c.after_second_read-read.ensures c.settle_lanes-settled.ensures)

pub returns : goal.returns
unfolding second_reading
returns c = rw (c.round_ended.ensures, sym c.is_last.ensures ∙ c.if-not-is_last.false, ← c.after_second_read-read.ensures, ← c.settle_lanes-settled.ensures)
