-- The invariant: the records before the place are told, and what is left to tell gives the whole. The card stays steady, so that each turn
-- may be played without a test, and its tables keep their lengths.
use Prim.Native.Nat.{◌-◌}
use lib.ListN.{length}
use Rattle.model.specs.InUse.{card_of}
use Rattle.tell.proofs.Turns.{Going}
use Rattle.tell.proofs.tell_turns.Given as goal

abbrev pub invariant-loop-at : goal.invariant-loop-at
invariant-loop-at l = Going l.size (card_of l.initial.cells l.initial.logs l.initial.decisions l.initial.racks) l.bytes l.initial.out l.index
    (record {
      card = card_of l.cells l.logs l.decisions l.racks;
      text = record { bytes = l.out; place = l.place };
      taken = l.taken;
    })
    l.number
    l.at

abbrev pub decreases-loop-at : goal.decreases-loop-at
decreases-loop-at l = length l.bytes - l.at
