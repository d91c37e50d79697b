-- The cells written are the rack's own; the step rises without wrapping.
use native.Mathlib.Omega.{arith}
use Rattle.step.proofs.Places.{step_small, here, first_lane}
use Rattle.step.proofs.offer.Goals as goal

pub write_offers-requires : goal.write_offers-requires
write_offers-requires c =
    let a = c.requires in
    here a 0 0 _ (omega arith) (first_lane a.round) a.rack_there

pub advanced-requires : goal.advanced-requires
advanced-requires c = omega (arith, step_small c.requires.round)
