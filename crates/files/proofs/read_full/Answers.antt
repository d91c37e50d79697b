-- What a read gave goes on from what was read before it.
use Rattle.std.proofs.Common.{◌≡◌, ℕ, ◌+◌, ◌-◌, ◌≤◌, List, ◌++◌, rules, length, take, sym, subst, le_refl, drop_at, length-take-le}
use Rattle.std.proofs.lemmas.Slice.{take-put_mid_below}
use Rattle.std.proofs.KnownBytes.{Consumes-trans}
use Rattle.std.specs.Io.KnownBytes.{Consumes}
use borrow.Rule.Slice.PartMut.{put_mid, post_of}
use lib.Seq.{take-add, take-append-le}
use Rattle.files.proofs.read_full.Goals as goal

-- the first n bytes of what was written from a on stand behind the first a
take-put_mid_add : (a k n : ℕ) (xs ys : List ℕ) → a ≤ length xs → n ≤ length ys → take (a + n) (put_mid a k xs ys) ≡ take a xs ++ take n ys
take-put_mid_add a k n xs ys within fits =
    let front = take-put_mid_below a k xs ys a (le_refl a) within in
    let behind = drop_at (take a xs) (ys ++ post_of a k xs) a (length-take-le a xs within) in
    let part = take-append-le n ys (post_of a k xs) fits in
    cc (take-add a n (put_mid a k xs ys))

pub loop-count-preserved : goal.loop-count-preserved
loop-count-preserved g c =
    let same = take-put_mid_add c.loop-count.count (length c.loop-count.buf - c.loop-count.count) c.in-Ok.n c.loop-count.buf c.read.new.buf c.loop-count.invariant.0 c.in-Ok.ensures.bound.0 in
    (search rules, search rules, subst (Consumes _ _) (sym same) (Consumes-trans _ _ _ _ _ c.loop-count.invariant.2 c.in-Ok.ensures.bytes.0))
