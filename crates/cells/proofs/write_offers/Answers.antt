-- The part of the rack's round comes back with the offers, which `offers_part` says of the whole table.
use Prim.Native.Nat.{◌+◌, ◌*◌, ◌-◌}
use mathlib.Core.Path.{refl}
use native.Mathlib.Omega.{arith}
use lib.ListN.{length-take, length-drop}
use Rattle.model.proofs.Sizes.{sizes}
use Rattle.cells.proofs.Room.{room}
use Rattle.cells.proofs.Offers.{offers_part}
use Rattle.cells.proofs.write_offers.Goals as goal

pub overflow_mul-a : goal.overflow_mul-a
overflow_mul-a c = omega (arith, room c.requires)

pub overflow_mul-a-2 : goal.overflow_mul-a-2
overflow_mul-a-2 c = omega (arith, room c.requires)

pub overflow_mul-a-3 : goal.overflow_mul-a-3
overflow_mul-a-3 c = omega (arith, room c.requires)

pub overflow_mul-e : goal.overflow_mul-e
overflow_mul-e c = omega (arith, room c.requires)

pub overflow_mul-e-2 : goal.overflow_mul-e-2
overflow_mul-e-2 c = omega (arith, room c.requires)

pub overflow_add-e : goal.overflow_add-e
overflow_add-e c = omega (arith, room c.requires)

pub slice_bounds-put_offers-end : goal.slice_bounds-put_offers-end
slice_bounds-put_offers-end c = omega (arith, room c.requires)

pub put_offers-requires : goal.put_offers-requires
put_offers-requires c =
    let h = c.requires in
    let w = room h in
    (simp (length-take, length-drop) (omega arith), ((sizes _ h.size).lanes_high, h.spot.rack_there))

pub returns : goal.returns
returns c =
    let a = c.args in
    let w = room c.requires in
    let n = a.size.racks in
    let k = a.size.lanes in
    let f = (a.r.round - 1) * k * n in
    rw c.put_offers.ensures
    (offers_part a.size a.cells.now a.rack a.r f (8 * f + 8 * (k * n) - 8 * f) refl (omega arith) (omega arith) c.requires.spot.rack_there k (omega arith))
