-- Which log is handed back: not only its bytes, but the log itself, as a reference.
use Rattle.std.specs.Prelude.{List, [], cond, ℕ, ltb, length}
use Rattle.std.specs.Borrow.{Bor}
use Rattle.model.specs.Logs.{agree}

-- "an empty part of the first": it begins where the first begins, and has no bytes
abbrev pub empty_part : Bor (List ℕ) → Bor (List ℕ)
empty_part a = record { ref_ptr = a.ref_ptr; now = [] }

-- "the longer log itself, the first if equal, and an empty part of the first if they don't agree"
unfoldable pub longer_itself : Bor (List ℕ) → Bor (List ℕ) → Bor (List ℕ)
longer_itself a b =
    cond (agree a.now b.now) (cond (ltb (length a.now) (length b.now)) b a) (empty_part a)
