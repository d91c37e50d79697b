-- At an answer step the cell is there, since test 5 did not refuse.
use native.Mathlib.Omega.{arith}
use Rattle.step.proofs.Ready.{named}
use Rattle.refusal.proofs.not_offered.Goals as goal

pub read-c-requires : goal.read-c-requires
read-c-requires c =
    let p = c.requires in
    let w = named _ _ _ _ p.0.well c.if-r-ne1.false in
    record {
      size = p.0.round.size;
      exact = p.1;
      spot =
          record {
            section_there = omega arith;
            round_low = p.0.round.round_low;
            round_high = p.0.round.round_high;
            lane_there = w.0;
            rack_there = w.1;
          };
    }
