-- The part of one round comes back with the record stored, which `store_part` says of the whole table.
use mathlib.Core.Path.{ap}
use Prim.Native.Nat.{◌+◌, ◌*◌, ◌-◌}
use Rattle.model.specs.InUse.{cells_of}
use Rattle.model.proofs.Record.{store_part}
use native.Mathlib.Omega.{arith}
use Rattle.cells.proofs.Room.{room_of, in_part}
use Rattle.cells.proofs.write.Goals as goal

pub overflow_mul-a : goal.overflow_mul-a
overflow_mul-a c = omega (arith, room_of c.requires c.index.ensures)

pub overflow_mul-a-2 : goal.overflow_mul-a-2
overflow_mul-a-2 c = omega (arith, room_of c.requires c.index.ensures)

pub overflow_mul-a-3 : goal.overflow_mul-a-3
overflow_mul-a-3 c = omega (arith, room_of c.requires c.index.ensures)

pub overflow_mul-a-4 : goal.overflow_mul-a-4
overflow_mul-a-4 c = omega (arith, room_of c.requires c.index.ensures)

pub overflow_mul-a-5 : goal.overflow_mul-a-5
overflow_mul-a-5 c = omega (arith, room_of c.requires c.index.ensures)

pub overflow_add-a : goal.overflow_add-a
overflow_add-a c = omega (arith, room_of c.requires c.index.ensures)

pub overflow_mul-a-6 : goal.overflow_mul-a-6
overflow_mul-a-6 c = omega (arith, room_of c.requires c.index.ensures)

pub overflow_mul-e : goal.overflow_mul-e
overflow_mul-e c = omega (arith, room_of c.requires c.index.ensures)

pub overflow_mul-e-2 : goal.overflow_mul-e-2
overflow_mul-e-2 c = omega (arith, room_of c.requires c.index.ensures)

pub overflow_add-e : goal.overflow_add-e
overflow_add-e c = omega (arith, room_of c.requires c.index.ensures)

pub slice_bounds-put-end : goal.slice_bounds-put-end
slice_bounds-put-end c = omega (arith, room_of c.requires c.index.ensures)

pub returns : goal.returns
returns c =
    let a = c.args in
    let w = room_of c.requires c.index.ensures in
    let n = a.size.racks in
    let k = a.size.lanes in
    let f = c.index.result * (a.size.rounds * k * n) + (a.round - 1) * k * n in
    rw (c.put.ensures, ← c.index.ensures, in_part a.size c.index.result a.round a.lane a.rack)
    (ap cells_of (store_part (cells_of a.cells.now) f (a.lane * n + a.rack) (8 * f + 8 * (k * n) - 8 * f) a.c (omega arith)))
