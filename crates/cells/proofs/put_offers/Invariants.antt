-- After each lane the part holds the offers of the lanes so far.
use Prim.Native.Nat.{◌≤◌}
use mathlib.Core.Path.{◌≡◌}
use lib.ListN.{length}
use Rattle.cells.specs.Parts.{offers_in}
use Rattle.cells.proofs.put_offers.Given as goal

abbrev pub invariant-loop-lane : goal.invariant-loop-lane
invariant-loop-lane l = (l.lane ≤ l.k) × ((length l.part ≡ length l.initial.part) × (l.part ≡ offers_in l.initial.part l.n l.rack l.held l.lane))
