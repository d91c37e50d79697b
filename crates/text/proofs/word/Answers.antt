-- The bytes copied are a run of stores.
use mathlib.Core.Path.{◌≡◌, refl}
use mathlib.Core.List.{append_assoc}
use Prim.Native.Nat.{◌+◌, ◌-◌}
use native.Mathlib.Omega.{arith}
use lib.ListN.{length, take, drop}
use lib.Seq.{drop-drop}
use Rattle.std.proofs.lemmas.List.Edits.{sets-eq}
use Rattle.text.specs.Written.{write}
use Rattle.text.proofs.word.Goals as goal

pub returns : goal.returns
unfolding write
returns c =
    let w = c.args.w.now in
    let at = c.args.at in
    let out = c.args.out.now in
    let same : at + length w - at ≡ length w = omega arith in
    rw (sets-eq w out at c.requires, c.copy_from_slice.ensures.after, same, drop-drop (length w) at out, append_assoc (take at out) w (drop (at + length w) out)) refl
