-- The card stays steady, as turns keep it; the lines of a part have room, as its records are at most 512.
use Prim.Native.Nat.{◌+◌}
use native.Mathlib.Omega.{arith}
use Rattle.model.specs.InUse.{card_of}
use Rattle.tell.proofs.Turns.{turns_kept, turns_moved}
use Rattle.sheet.specs.Night.{PartDone}
use Rattle.sheet.proofs.Parts.{part_few}
use Rattle.sheet.proofs.play_some.Given.{Over}
use Rattle.sheet.proofs.play_some.Goals as goal
use Rattle.sheet.proofs.play_some.Goals.{After-records_in}

-- what the turns told leave
done : (g : Over) (c : After-records_in g)
    → PartDone c.args.size (card_of c.tell_turns-told.new.cells c.tell_turns-told.new.logs c.tell_turns-told.new.decisions c.tell_turns-told.result.racks)
    c.args.night.now.read (c.args.night.now.read + c.records_in.result) (c.args.night.now.taken + c.tell_turns-told.result.taken)
done g c =
    let p = c.requires in
    let most = part_few _ _ c.in_ok-got.ensures.filled.counts.0 (omega (arith, c.read_part.auto.buf)) in
    let m = turns_kept _ _ _ _ _ _ _ c.tell_turns-told.ensures p.played.steady in
    record {
      played = record { steady = m.steady; fewer = omega (arith, m.more, c.records_in.ensures, p.played.fewer) };
      near = omega (arith, most, c.records_in.ensures);
    }

pub tell_turns-told-requires : goal.tell_turns-told-requires
tell_turns-told-requires g c =
    let p = c.requires in
    let most = part_few _ _ c.in_ok-got.ensures.filled.counts.0 (omega (arith, c.read_part.auto.buf)) in
    let steady = p.played.steady in
    record { shape = steady.shape; fit = steady.fit; ok = steady.ok; room = omega (arith, most, c.told-out); few = omega (arith, p.few, most) }

pub overflow_add-night : goal.overflow_add-night
overflow_add-night g c = omega (arith, part_few _ _ c.in_ok-got.ensures.filled.counts.0 (omega (arith, c.read_part.auto.buf)), c.records_in.ensures, c.requires.few)

pub overflow_add-night-2 : goal.overflow_add-night-2
overflow_add-night-2 g c =
    let d = done g (goal.at.overflow_add-night-2 g c).After-records_in in
    omega (arith, d.played.fewer, d.near, c.requires.few)

pub shared_ref_as_front-print : goal.shared_ref_as_front-print
shared_ref_as_front-print g c =
    let p = c.requires in
    let most = part_few _ _ c.in_ok-got.ensures.filled.counts.0 (omega (arith, c.read_part.auto.buf)) in
    let m = turns_moved _ _ _ _ _ _ _ c.tell_turns-told.ensures p.played.steady (omega (arith, p.few, most)) in
    omega (arith, m.near, most)

pub returns-in_err-print : goal.returns-in_err-print
returns-in_err-print g c = done g (goal.at.returns-in_err-print g c).After-records_in

pub returns : goal.returns
returns g c = done g (goal.at.returns g c).After-records_in
