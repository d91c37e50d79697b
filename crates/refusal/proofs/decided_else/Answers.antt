-- At an answer step the decision is there, since test 5 did not refuse.
use Rattle.step.proofs.Ready.{named}
use Rattle.refusal.proofs.decided_else.Goals as goal

pub decision_at-decision-requires : goal.decision_at-decision-requires
decision_at-decision-requires c =
    let p = c.requires in
    record { round = p.0.round; exact = p.1; lane_there = (named _ _ _ _ p.0.well c.if-r-ne1.false).0 }
