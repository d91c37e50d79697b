-- The invariant: the card is steady, and at most 512 turns were read for each part.
use Prim.Native.Nat.{◌*◌, ◌≤◌}
use Rattle.model.specs.InUse.{card_of}
use Rattle.sheet.specs.Night.{Played}
use Rattle.sheet.proofs.play_all.Given as goal

abbrev pub invariant-loop : goal.invariant-loop
invariant-loop g l =
    record {
      played : Played l.size (card_of l.cells l.logs l.decisions l.night.racks) l.night.read l.night.taken;
      near : l.night.read ≤ 512 * l.counter;
    }
