-- The log's line, and its entries behind it.
use mathlib.Core.Path.{ap, ◌∙◌}
use native.Mathlib.Omega.{arith}
use Rattle.model.proofs.Start.{log_fits}
use Rattle.text.specs.Written.{write}
use Rattle.text.proofs.Written.{behind, moved}
use Rattle.text.proofs.Lines.{log_most}
use Rattle.tell.proofs.Logs.{ready_entries, log_text_is}
use Rattle.tell.proofs.tell_log.Goals as goal

pub length_from-count-requires : goal.length_from-count-requires
length_from-count-requires c =
    let p = c.requires in
    omega (arith, c.log_start-start.ensures, log_fits _ _ _ p.fit p.rack_there p.lane_there, p.exact)

pub tell_entries-requires : goal.tell_entries-requires
tell_entries-requires c =
    let m = moved _ _ _ c.log_line-at.ensures (log_most c.args.rack c.args.lane c.args.finished c.length_from-count.result (omega arith) (omega arith) (omega arith) (omega arith)) in
    ready_entries _ _ _ _ _ _ _ c.log_start-start.ensures c.length_from-count.ensures _ _ c.requires m.same m.near

pub returns : goal.returns
returns c =
    behind _ _ _ _ c.log_line-at.ensures c.tell_entries.ensures
    ∙ ap (write _ 0) (log_text_is _ _ _ _ _ _ _ c.log_start-start.ensures c.length_from-count.ensures _)
