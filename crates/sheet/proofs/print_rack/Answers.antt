-- Each log has room, as its text is at most 65 lines.
use native.Mathlib.Omega.{arith}
use Rattle.text.proofs.Written.{moved}
use Rattle.tell.specs.Log.{LogReady}
use Rattle.tell.proofs.Logs.{log_short}
use Rattle.sheet.proofs.print_rack.Goals as goal

pub shared_ref_as_front-print : goal.shared_ref_as_front-print
shared_ref_as_front-print g c =
    let p = c.requires in
    let ready : LogReady c.args.size c.args.logs.now c.args.lists.now c.args.rack c.loop-lane.lane c.args.out.now =
    record {
      fit = p.fit;
      exact = p.exact;
      ok = p.ok;
      lists_fit_is = p.lists_fit_is;
      rack_there = p.rack_there;
      lane_there = c.loop-lane-test.true;
      room = omega (arith, c.told-out);
    }
    in
    let short = log_short _ _ _ _ _ ready (λ i. omega (arith, c.type_inv.lists i)) c.args.finished (omega arith) in
    omega (arith, (moved _ _ _ c.tell_log-place.ensures short).near)
