-- The lines by their parts, and that the room asked for is enough for them.
use mathlib.Core.Path.{◌≡◌, refl}
use mathlib.Core.List.{List, ◌++◌, append_assoc}
use Prim.Native.Nat.{ℕ, ◌+◌, ◌^◌, ◌≤◌, ◌<◌}
use native.Mathlib.Omega.{arith}
use lib.ListN.{length, length-append}
use Rattle.laws.specs.Text.{ascii}
use Rattle.model.specs.declared.Size.{Size}
use Rattle.model.specs.Sheet.{bad_size_line, bad_cues_line, size_line, refused_line, turns_line, log_line, entry_line}
use Rattle.text.specs.Lines.{ended, named, line_most}
use Rattle.text.specs.Written.{Written, write}
use Rattle.text.proofs.Digits.{decimal_most}
use Rattle.text.proofs.Written.{Moved, moved}

-- how long the parts are at most, and where they end
pub ended_most : (x end : ℕ) → x < 2 ^ 64 → length (ended x end) ≤ 21
unfolding ended
ended_most x end h = rw length-append (omega (arith, decimal_most x h))

pub named_most : (word : List ℕ) (x end : ℕ) → x < 2 ^ 64 → length (named word x end) ≤ length word + 21
unfolding named
named_most word x end h = rw length-append (omega (arith, ended_most x end h))

pub ended_moved : (l : List ℕ) (a x end : ℕ) {w : Written} → w ≡ write l a (ended x end) → x < 2 ^ 64 → Moved l a 21 w
ended_moved l a x end e h = moved l a (ended x end) e (ended_most x end h)

pub named_moved : (l : List ℕ) (a : ℕ) (word : List ℕ) (x end : ℕ) {w : Written} → w ≡ write l a (named word x end) → x < 2 ^ 64
    → Moved l a (length word + 21) w
named_moved l a word x end e h = moved l a (named word x end) e (named_most word x end h)

-- each line is its parts, with a space behind each but the last, and a newline behind that
pub bad_cues_parts : (index : ℕ) → named (ascii "bad cues ") index 10 ≡ bad_cues_line index
unfolding bad_cues_line named ended
bad_cues_parts index = refl

pub size_parts : (s : Size)
    → (named (ascii "racks ") s.racks 32 ++ named (ascii "lanes ") s.lanes 32) ++ named (ascii "rounds ") s.rounds 10 ≡ size_line s
unfolding size_line named ended
size_parts s = simp append_assoc

pub refused_parts : (index number : ℕ) → named (ascii "refused ") index 32 ++ ended number 10 ≡ refused_line index number
unfolding refused_line named ended
refused_parts index number = simp append_assoc

pub turns_parts : (read taken refused : ℕ)
    → (named (ascii "turns ") read 32 ++ named (ascii "taken ") taken 32) ++ named (ascii "refused ") refused 10 ≡ turns_line read taken refused
unfolding turns_line named ended
turns_parts read taken refused = simp append_assoc

pub log_parts : (rack lane finished length : ℕ)
    → ((named (ascii "log ") rack 32 ++ ended lane 32) ++ named (ascii "finished ") finished 32) ++ named (ascii "length ") length 10
    ≡ log_line rack lane finished length
unfolding log_line named ended
log_parts rack lane finished length = simp append_assoc

pub entry_parts : (place issuer number code : ℕ)
    → ((ended place 32 ++ ended issuer 32) ++ ended number 32) ++ ended code 10 ≡ entry_line place issuer number code
unfolding entry_line ended
entry_parts place issuer number code = simp append_assoc

-- the room asked for is enough for each line
pub bad_size_most : length bad_size_line ≤ line_most
unfolding bad_size_line
bad_size_most = omega arith

pub bad_cues_most : (index : ℕ) → index < 2 ^ 64 → length (bad_cues_line index) ≤ line_most
bad_cues_most index h = rw (← bad_cues_parts index) (omega (arith, named_most (ascii "bad cues ") index 10 h))

pub size_most : (s : Size) → s.racks < 2 ^ 64 → s.lanes < 2 ^ 64 → s.rounds < 2 ^ 64 → length (size_line s) ≤ line_most
size_most s h g f =
    rw (← size_parts s)
    (simp length-append
    (omega (
      arith,
      named_most (ascii "racks ") s.racks 32 h,
      named_most (ascii "lanes ") s.lanes 32 g,
      named_most (ascii "rounds ") s.rounds 10 f,
    )))

pub refused_most : (index number : ℕ) → index < 2 ^ 64 → number < 2 ^ 64 → length (refused_line index number) ≤ line_most
refused_most index number h g =
    rw (← refused_parts index number)
    (simp length-append (omega (arith, named_most (ascii "refused ") index 32 h, ended_most number 10 g)))

pub turns_most : (read taken refused : ℕ) → read < 2 ^ 64 → taken < 2 ^ 64 → refused < 2 ^ 64 → length (turns_line read taken refused) ≤ line_most
turns_most read taken refused h g f =
    rw (← turns_parts read taken refused)
    (simp length-append
    (omega (
      arith,
      named_most (ascii "turns ") read 32 h,
      named_most (ascii "taken ") taken 32 g,
      named_most (ascii "refused ") refused 10 f,
    )))

pub log_most : (rack lane finished count : ℕ) → rack < 2 ^ 64 → lane < 2 ^ 64 → finished < 2 ^ 64 → count < 2 ^ 64
    → length (log_line rack lane finished count) ≤ line_most
log_most rack lane finished count h g f e =
    rw (← log_parts rack lane finished count)
    (simp length-append
    (omega (
      arith,
      named_most (ascii "log ") rack 32 h,
      ended_most lane 32 g,
      named_most (ascii "finished ") finished 32 f,
      named_most (ascii "length ") count 10 e,
    )))

pub entry_most : (place issuer number code : ℕ) → place < 2 ^ 64 → issuer < 2 ^ 64 → number < 2 ^ 64 → code < 2 ^ 64
    → length (entry_line place issuer number code) ≤ line_most
entry_most place issuer number code h g f e =
    rw (← entry_parts place issuer number code)
    (simp length-append (omega (arith, ended_most place 32 h, ended_most issuer 32 g, ended_most number 32 f, ended_most code 10 e)))
