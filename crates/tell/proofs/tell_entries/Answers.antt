-- The invariant: the lines of the entries passed are written, each at most 128 bytes.
use mathlib.Core.Path.{◌≡◌}
use native.Mathlib.Omega.{arith}
use Rattle.model.specs.InUse.{logs_of}
use Rattle.text.proofs.Lines.{entry_most}
use Rattle.tell.proofs.Logs.{entries_none, entries_next, entry_text_is}
use Rattle.tell.proofs.tell_entries.Goals as goal

pub loop-place-init : goal.loop-place-init
loop-place-init c = entries_none _ _ _ _ _ _ _

pub entry_line-end-requires : goal.entry_line-end-requires
entry_line-end-requires c = omega (arith, c.loop-place.invariant.same, c.loop-place.invariant.near, c.requires.room)

pub loop-place-preserved : goal.loop-place-preserved
loop-place-preserved c =
    let a = c.args in
    let i = c.loop-place.place in
    entries_next a.lanes a.lists.now (logs_of a.logs.now) a.start a.lane a.at a.out.now i _ _ _ c.loop-place.invariant c.entry_line-end.ensures
    (entry_text_is a.lanes a.lists.now (logs_of a.logs.now) a.start a.lane i _ _ _ _ c.entry-cue.ensures c.from-issuer.ensures c.from-number.ensures c.code_in-code.ensures)
    (entry_most i _ _ _ (omega arith) (omega arith) (omega arith) (omega arith))

pub shape_of-out : goal.shape_of-out
shape_of-out c = c.loop-place.invariant.same

pub returns : goal.returns
returns c =
    let e : c.loop-place.place ≡ c.args.count = omega arith in
    rw (← e) c.loop-place.invariant.text
