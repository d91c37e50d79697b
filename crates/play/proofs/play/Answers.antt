-- The turn of the rack named, put back among the eight, is the turn.
use mathlib.Core.Path.{◌∙◌}
use Prim.Native.Nat.{◌<◌}
use native.Mathlib.Omega.{arith}
use Rattle.std.proofs.lemmas.Result.{err_from_is_err_and}
use Rattle.model.specs.InUse.{tables_of, after_of, outcome}
use Rattle.model.specs.Table.{Card, rack_at}
use Rattle.model.specs.Refusal.{number_of}
use Rattle.play.specs.Rack.{RackOutcome}
use Rattle.play.proofs.Turned.{few, same_racks, tested_rack, turned_rack}
use Rattle.play.proofs.play.Goals as goal
use Rattle.play.proofs.play.Goals.{After-rack_named-rack}

-- what was lent
abbrev lent : After-rack_named-rack → Card
lent c =
    let a = c.args in
    record { tables = tables_of a.cells.now a.logs.now a.decisions.now; racks = a.racks }

there : (c : After-rack_named-rack) → c.rack_named-rack.result < 8
there c = few _ (lent c) c.requires _ _ c.rack_named-rack.ensures

pub offset_bounds-racks-rack : goal.offset_bounds-racks-rack
offset_bounds-racks-rack c = omega (arith, there (goal.at.offset_bounds-racks-rack c).After-rack_named-rack)

pub bounds-racks-rack : goal.bounds-racks-rack
bounds-racks-rack c = there (goal.at.bounds-racks-rack c).After-rack_named-rack

pub play_rack-requires : goal.play_rack-requires
play_rack-requires c = tested_rack _ (lent (goal.at.play_rack-requires c).After-rack_named-rack) c.requires _ _ c.rack_named-rack.ensures

pub offset_bounds-racks-rack-2 : goal.offset_bounds-racks-rack-2
offset_bounds-racks-rack-2 c = omega (arith, there (goal.at.offset_bounds-racks-rack-2 c).After-rack_named-rack)

pub bounds-racks-rack-2 : goal.bounds-racks-rack-2
bounds-racks-rack-2 c = there (goal.at.bounds-racks-rack-2 c).After-rack_named-rack

pub returns-in_err-after : goal.returns-in_err-after
returns-in_err-after c =
    let p = err_from_is_err_and c.from_residual.result c.from_residual.ensures.1 in
    let a = c.args in
    let o : RackOutcome = record {
      number = number_of c.in_err-after.field-0.0;
      after = after_of c.play_rack.new.cells c.play_rack.new.logs c.play_rack.new.decisions (rack_at a.racks c.rack_named-rack.result);
    } in
    rw (p.1, p.2)
    (same_racks (λ racks. outcome o.number c.play_rack.new.cells c.play_rack.new.logs c.play_rack.new.decisions racks) a.racks c.rack_named-rack.result ∙ turned_rack _ (lent (goal.at.returns-in_err-after c).After-rack_named-rack) c.requires _ _ c.rack_named-rack.ensures o c.in_err-after.ensures)

pub returns : goal.returns
returns c =
    let o : RackOutcome = record { number = 0; after = after_of c.play_rack.new.cells c.play_rack.new.logs c.play_rack.new.decisions c.in_ok-after.after } in
    turned_rack _ (lent (goal.at.returns c).After-rack_named-rack) c.requires _ _ c.rack_named-rack.ensures o c.in_ok-after.ensures
