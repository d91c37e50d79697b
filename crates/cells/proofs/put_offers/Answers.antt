-- After each lane the part holds the offers of the lanes so far.
use mathlib.Core.Path.{◌∙◌}
use native.Mathlib.Numerals.{add-one}
use borrow.Author.Rules.{rules}
use Rattle.cells.specs.Parts.{offers_in}
use Rattle.cells.proofs.put_offers.Goals as goal

pub loop-lane-init : goal.loop-lane-init
unfolding offers_in
loop-lane-init c = search rules

pub loop-lane-preserved : goal.loop-lane-preserved
unfolding offers_in
loop-lane-preserved c =
    let l = c.loop-lane in
    let s = c.put.ensures in
    (search rules, (c.put.auto.part ∙ l.invariant.1.0, rw (add-one, s, c.offered.ensures, l.invariant.1.1)))
