-- The number that `night_longer` gives names what is handed back, and it is 2 only for logs that do not agree.
use mathlib.Core.Path.{◌≡◌}
use mathlib.Core.List.{List, []}
use mathlib.Core.Bool.{false}
use Prim.Native.Nat.{ℕ}
use native.Mathlib.Omega.{arith}
use denote.Ref.{Bor}
use lib.Dec.{ltb}
use lib.ListN.{length}
use Rattle.laws.proofs.Cases.{either, bool}
use Rattle.model.specs.Logs.{agree, longer}
use Rattle.compare.specs.Itself.{empty_part, longer_itself}
use Rattle.ports.specs.Told.{which_longer, named}

-- the bytes: 0 the first log's, 1 the second's, 2 none
pub which_longer_is : (a b : List ℕ) → longer a b ≡ named (which_longer a b) a b []
unfolding longer which_longer
which_longer_is a b =
    either (bool (agree a b))
    (λ t. either (bool (ltb (length a) (length b))) (λ l. rw (t, l)) (λ l. rw (t, l)))
    (λ f. rw f)

-- the log itself
pub which_itself : (a b : Bor (List ℕ)) → longer_itself a b ≡ named (which_longer a.now b.now) a b (empty_part a)
unfolding longer_itself which_longer
which_itself a b =
    either (bool (agree a.now b.now))
    (λ t. either (bool (ltb (length a.now) (length b.now))) (λ l. rw (t, l)) (λ l. rw (t, l)))
    (λ f. rw f)

-- an empty log that is handed back is told apart from "an empty part of the first"
pub which_apart : (a b : List ℕ) → which_longer a b ≡ 2 → agree a b ≡ false
unfolding which_longer
which_apart a b e =
    either (bool (agree a b))
    (λ t. either (bool (ltb (length a) (length b)))
    (λ l. let z : ◌≡◌ {A = ℕ} 1 2 = rw (t, l) at e in absurd (omega arith))
    (λ l. let z : ◌≡◌ {A = ℕ} 0 2 = rw (t, l) at e in absurd (omega arith)))
    (λ f. f)
