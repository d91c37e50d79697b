-- Each way out has decided the tests before it; what they have shown is what the later ones require.
use mathlib.Core.Path.{◌≡◌, sym, ◌∙◌}
use mathlib.Core.Bool.{false}
use Rattle.model.specs.InUse.{tables_of, cells_of}
use Rattle.model.specs.Turn.{finished, misnamed, not_offered, decided_else, refusal_of}
use Rattle.step.specs.Ready.{Ready}
use Rattle.step.proofs.Ready.{ready}
use Rattle.step.proofs.Arms.{in_round, at_cells}
use Rattle.refusal.specs.Tests.{Named}
use Rattle.refusal.proofs.Last.{overfull_in_is}
use Rattle.refusal.proofs.refusal_of.Goals as goal
use Rattle.refusal.proofs.refusal_of.Goals.{Else-not_offered, Else-finished, Else-decided_else, Else-misnamed}

past_4 : (c : Else-finished) → finished c.args.size c.args.r ≡ false
past_4 c = sym c.finished.ensures ∙ c.if-finished.false

past_5 : (c : Else-misnamed) → misnamed c.args.size c.args.r c.args.lane c.args.source ≡ false
past_5 c = sym c.misnamed.ensures ∙ c.if-misnamed.false

past_6 : (c : Else-not_offered)
    → not_offered c.args.size c.args.r (cells_of c.args.cells.now) c.args.lane c.args.source ≡ false
past_6 c = sym c.not_offered.ensures ∙ c.if-not_offered.false

past_7 : (c : Else-decided_else)
    → decided_else c.args.size c.args.r c.args.decisions.now c.args.lane c.args.source ≡ false
past_7 c = sym c.decided_else.ensures ∙ c.if-decided_else.false

ready_4 : (c : Else-finished)
    → Ready c.args.size (tables_of c.args.cells.now c.args.logs.now c.args.decisions.now) c.args.rack c.args.r
ready_4 c = ready _ _ _ _ c.requires (past_4 c)

named_5 : (c : Else-misnamed) → Named c.args.size c.args.r c.args.lane c.args.source
named_5 c = record { round = in_round (ready _ _ _ _ c.requires (sym c.finished.ensures ∙ c.if-finished.false)); well = past_5 c }

pub returns-then-finished : goal.returns-then-finished
unfolding refusal_of
returns-then-finished c = rw (sym c.finished.ensures ∙ c.if-finished.true)

pub returns-then-misnamed : goal.returns-then-misnamed
unfolding refusal_of
returns-then-misnamed c = rw (past_4 (goal.at.returns-then-misnamed c).Else-finished, sym c.misnamed.ensures ∙ c.if-misnamed.true)

pub not_offered-requires : goal.not_offered-requires
not_offered-requires c = (named_5 (goal.at.not_offered-requires c).Else-misnamed, c.requires.exact.cells)

pub returns-then-not_offered : goal.returns-then-not_offered
unfolding refusal_of
returns-then-not_offered c = rw (past_4 (goal.at.returns-then-not_offered c).Else-finished, past_5 (goal.at.returns-then-not_offered c).Else-misnamed, sym c.not_offered.ensures ∙ c.if-not_offered.true)

pub decided_else-requires : goal.decided_else-requires
decided_else-requires c = (named_5 (goal.at.decided_else-requires c).Else-misnamed, c.requires.exact.decisions)

pub returns-then-decided_else : goal.returns-then-decided_else
unfolding refusal_of
returns-then-decided_else c = rw (past_4 (goal.at.returns-then-decided_else c).Else-finished, past_5 (goal.at.returns-then-decided_else c).Else-misnamed, past_6 (goal.at.returns-then-decided_else c).Else-not_offered, sym c.decided_else.ensures ∙ c.if-decided_else.true)

pub overfull-requires : goal.overfull-requires
overfull-requires c =
    let p = c.requires in
    record { at = at_cells (ready_4 (goal.at.overfull-requires c).Else-finished); exact = p.exact.logs; first_there = p.first_there }

pub returns-then-overfull : goal.returns-then-overfull
unfolding refusal_of
returns-then-overfull c = rw (past_4 (goal.at.returns-then-overfull c).Else-finished, past_5 (goal.at.returns-then-overfull c).Else-misnamed, past_6 (goal.at.returns-then-overfull c).Else-not_offered, past_7 (goal.at.returns-then-overfull c).Else-decided_else, overfull_in_is, sym c.overfull.ensures ∙ c.if-overfull.true)

pub returns : goal.returns
unfolding refusal_of
returns c = rw (past_4 (goal.at.returns c).Else-finished, past_5 (goal.at.returns c).Else-misnamed, past_6 (goal.at.returns c).Else-not_offered, past_7 (goal.at.returns c).Else-decided_else, overfull_in_is, sym c.overfull.ensures ∙ c.if-overfull.false)
