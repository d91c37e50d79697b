-- Nights of document 01, computed: every row of the table is right. Each row is computed by itself, since one computation has a limit.
use mathlib.Core.Path.{◌≡◌, refl}
use mathlib.Core.Bool.{true}
use Rattle.night.specs.Row.{right, all_right}
use Rattle.night.specs.Rows.{rows, p1, p2, p3, p4_none, p4_most, p4_over, p5_most, p5_over, p6, p7, p8, p9, p10_before, p10, p11_before, p11, p12, example}

right_p1 : right p1 ≡ true
unfolding right
right_p1 = refl

right_p2 : right p2 ≡ true
unfolding right
right_p2 = refl

right_p3 : right p3 ≡ true
unfolding right
right_p3 = refl

right_p4_none : right p4_none ≡ true
unfolding right
right_p4_none = refl

right_p4_most : right p4_most ≡ true
unfolding right
right_p4_most = refl

right_p4_over : right p4_over ≡ true
unfolding right
right_p4_over = refl

right_p5_most : right p5_most ≡ true
unfolding right
right_p5_most = refl

right_p5_over : right p5_over ≡ true
unfolding right
right_p5_over = refl

right_p6 : right p6 ≡ true
unfolding right
right_p6 = refl

right_p7 : right p7 ≡ true
unfolding right
right_p7 = refl

right_p8 : right p8 ≡ true
unfolding right
right_p8 = refl

right_p9 : right p9 ≡ true
unfolding right
right_p9 = refl

right_p10_before : right p10_before ≡ true
unfolding right
right_p10_before = refl

right_p10 : right p10 ≡ true
unfolding right
right_p10 = refl

right_p11_before : right p11_before ≡ true
unfolding right
right_p11_before = refl

right_p11 : right p11 ≡ true
unfolding right
right_p11 = refl

right_p12 : right p12 ≡ true
unfolding right
right_p12 = refl

right_example : right example ≡ true
unfolding right
right_example = refl

pub nights : all_right rows ≡ true
nights =
    rw (right_p1, right_p2, right_p3, right_p4_none, right_p4_most, right_p4_over, right_p5_most, right_p5_over, right_p6, right_p7, right_p8, right_p9, right_p10_before, right_p10, right_p11_before, right_p11, right_p12, right_example)
