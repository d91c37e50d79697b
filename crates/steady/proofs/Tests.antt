-- Tests that choose: what they give in each case, and what gives them.
use mathlib.Core.Path.{◌≡◌, refl}
use mathlib.Core.Bool.{Bool, true, false, cond, not, ◌||◌}
use Rattle.laws.proofs.Cases.{clash_bool}

pub or_else : (test t : Bool) → test || t ≡ true → test ≡ false → t ≡ true
or_else true t e f = clash_bool refl f
or_else false t e f = e

pub else_or : (test : Bool) {t : Bool} → (test ≡ false → t ≡ true) → test || t ≡ true
else_or true g = refl
else_or false g = g refl

pub cond_then : (test a b : Bool) → cond test a b ≡ true → test ≡ true → a ≡ true
cond_then true a b e f = e
cond_then false a b e f = clash_bool f refl

pub cond_else : (test a b : Bool) → cond test a b ≡ true → test ≡ false → b ≡ true
cond_else true a b e f = clash_bool refl f
cond_else false a b e f = e

pub both_cond : (test : Bool) {a b : Bool} → (test ≡ true → a ≡ true) → (test ≡ false → b ≡ true) → cond test a b ≡ true
both_cond true f g = f refl
both_cond false f g = g refl

pub false_not : {b : Bool} → b ≡ false → not b ≡ true
false_not e = rw e
