-- The index is `cell_index`; by `room` nothing on the way to it wraps, and its record lies in the table.
use native.Mathlib.Omega.{arith}
use Rattle.model.specs.Table.{cell_index}
use Rattle.cells.proofs.Room.{room_of}
use Rattle.cells.proofs.read.Goals as goal

pub overflow_mul-at : goal.overflow_mul-at
overflow_mul-at c = omega (arith, room_of c.requires c.index.ensures)

pub overflow_mul-at-2 : goal.overflow_mul-at-2
overflow_mul-at-2 c = omega (arith, room_of c.requires c.index.ensures)

pub overflow_mul-at-3 : goal.overflow_mul-at-3
overflow_mul-at-3 c = omega (arith, room_of c.requires c.index.ensures)

pub overflow_mul-at-4 : goal.overflow_mul-at-4
overflow_mul-at-4 c = omega (arith, room_of c.requires c.index.ensures)

pub overflow_add-at : goal.overflow_add-at
overflow_add-at c = omega (arith, room_of c.requires c.index.ensures)

pub overflow_mul-at-5 : goal.overflow_mul-at-5
overflow_mul-at-5 c = omega (arith, room_of c.requires c.index.ensures)

pub overflow_add-at-2 : goal.overflow_add-at-2
overflow_add-at-2 c = omega (arith, room_of c.requires c.index.ensures)

pub overflow_add-at-3 : goal.overflow_add-at-3
overflow_add-at-3 c = omega (arith, room_of c.requires c.index.ensures)

pub load-requires : goal.load-requires
load-requires c = omega (arith, room_of c.requires c.index.ensures)

pub returns : goal.returns
unfolding cell_index
returns c = rw (c.load.ensures, c.index.ensures)
