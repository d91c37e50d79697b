-- That one list begins with the other, as `starts_with` tests it: the longer against as many elements as the other has.
use mathlib.Core.Path.{◌≡◌, refl}
use mathlib.Core.List.{List, [], ◌∷◌}
use native.Mathlib.Omega.{arith}
use Prim.Native.Nat.{ℕ, ◌≤◌, ◌<◌}
use lib.Dec.{eqb}
use lib.ListN.{length}
use Rattle.std.specs.List.{starts_with}
use Rattle.std.proofs.lemmas.Bool.Decides.{nat_tests}
use Rattle.model.specs.Logs.{one_begins}

turned : (x y : ℕ) → eqb y x ≡ eqb x y
turned x y = grind (arith, nat_tests)

pub begins_longer : (a b : List ℕ) → length b ≤ length a → one_begins a b ≡ starts_with eqb a b
begins_longer [] [] h = refl
begins_longer [] (y ∷ b) h = absurd (omega arith)
begins_longer (x ∷ a) [] h = refl
begins_longer (x ∷ a) (y ∷ b) h = rw (begins_longer a b (omega arith), turned x y) refl

pub begins_shorter : (a b : List ℕ) → length a < length b → one_begins a b ≡ starts_with eqb b a
begins_shorter [] b h = refl
begins_shorter (x ∷ a) [] h = absurd (omega arith)
begins_shorter (x ∷ a) (y ∷ b) h = rw (begins_shorter a b (omega arith)) refl
