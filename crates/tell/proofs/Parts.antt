-- Parts of turns.rec played and told one behind the other are the text of the night; and what a buffer holds before its place is what was written.
use mathlib.Core.Path.{◌≡◌, refl, sym, ◌∙◌}
use mathlib.Core.List.{List, [], ◌∷◌, ◌++◌, append_assoc, append-nil}
use mathlib.Core.Bool.{cond}
use Prim.Native.Nat.{ℕ, zero, suc, ◌+◌, ◌*◌, ◌≤◌}
use native.Mathlib.Omega.{arith}
use native.Mathlib.Nat.{zero-add, add-zero}
use lib.Dec.{eqb}
use lib.ListN.{length, take, length-append}
use lib.Seq.{sets-eq, take-append_seam}
use Rattle.model.specs.declared.Size.{Size}
use Rattle.model.specs.Table.{Card}
use Rattle.model.specs.Fresh.{fresh_card}
use Rattle.model.specs.Turn.{turned}
use Rattle.model.specs.Night.{after, replies, pieces}
use Rattle.model.specs.Sheet.{refused_line, refused_lines, taken_in, night_text}
use Rattle.text.specs.Written.{Written, write}
use Rattle.tell.specs.Parts.{Playing, play_part, play_parts, parts_text, joined, Whole}

-- the records of bytes that are whole records, and of those behind them
pub pieces_append : (records : ℕ) (a b : List ℕ) → length a ≡ 4 * records → pieces (a ++ b) ≡ pieces a ++ pieces b
unfolding pieces
pieces_append zero [] b e = refl
pieces_append zero (w ∷ a) b e = absurd (omega arith)
pieces_append (suc records) [] b e = absurd (omega arith)
pieces_append (suc records) (w ∷ []) b e = absurd (omega arith)
pieces_append (suc records) (w ∷ x ∷ []) b e = absurd (omega arith)
pieces_append (suc records) (w ∷ x ∷ y ∷ []) b e = absurd (omega arith)
pieces_append (suc records) (w ∷ x ∷ y ∷ z ∷ a) b e = rw (pieces_append records a b (omega arith))

module _ (s : Size) where
  after_append : (card : Card) (turns more : List (List ℕ)) → after s card (turns ++ more) ≡ after s (after s card turns) more
  unfolding after
  after_append card [] more = refl
  after_append card (turn ∷ turns) more = after_append (turned s card turn).card turns more

  replies_append : (card : Card) (turns more : List (List ℕ)) → replies s card (turns ++ more) ≡ replies s card turns ++ replies s (after s card turns) more
  unfolding after replies
  replies_append card [] more = refl
  replies_append card (turn ∷ turns) more = rw (replies_append (turned s card turn).card turns more)

  pub length_replies : (card : Card) (turns : List (List ℕ)) → length (replies s card turns) ≡ length turns
  unfolding replies
  length_replies card [] = refl
  length_replies card (turn ∷ turns) = rw (length_replies (turned s card turn).card turns)

taken_append : (numbers more : List ℕ) → taken_in (numbers ++ more) ≡ taken_in numbers + taken_in more
unfolding taken_in
taken_append [] more = omega arith
taken_append (number ∷ numbers) more = omega (arith, taken_append numbers more)

refused_append : (index : ℕ) (numbers more : List ℕ)
    → refused_lines index (numbers ++ more) ≡ refused_lines index numbers ++ refused_lines (index + length numbers) more
unfolding refused_lines
refused_append index [] more = rw add-zero
refused_append index (number ∷ numbers) more =
    let e : index + suc (length numbers) ≡ suc index + length numbers = omega arith in
    rw (refused_append (suc index) numbers more, e)
    (sym (append_assoc (cond (eqb number 0) [] (refused_line index number)) (refused_lines (suc index) numbers) (refused_lines (suc index + length numbers) more)))

module _ (s : Size) where
  -- no part, and a part behind whole records
  part_none : (p : Playing) → p ≡ play_part s p []
  unfolding play_part pieces after replies refused_lines taken_in
  part_none p = λ i. record { card = p.card; read = sym (add-zero p.read) i; taken = sym (add-zero p.taken) i; text = sym (append-nil p.text) i }

  part_behind : (records : ℕ) (p : Playing) (a b : List ℕ) → length a ≡ 4 * records → play_part s (play_part s p a) b ≡ play_part s p (a ++ b)
  unfolding play_part
  part_behind records p a b e =
      let turns = pieces a in
      let more = pieces b in
      let numbers = replies s p.card turns in
      let last = replies s (after s p.card turns) more in
      let read : p.read + length turns + length more ≡ p.read + length (turns ++ more) = omega (arith, length-append turns more) in
      let taken : p.taken + taken_in numbers + taken_in last ≡ p.taken + taken_in (replies s p.card (turns ++ more)) =
      rw (replies_append s p.card turns more) (omega (arith, taken_append numbers last))
      in
      let text : p.text ++ refused_lines p.read numbers ++ refused_lines (p.read + length turns) last ≡ p.text ++ refused_lines p.read (replies s p.card (turns ++ more)) =
      rw (replies_append s p.card turns more, refused_append p.read numbers last, length_replies s p.card turns)
      (append_assoc p.text (refused_lines p.read numbers) (refused_lines (p.read + length turns) last))
      in
      rw (pieces_append records a b e)
      (λ i. record { card = sym (after_append s p.card turns more) i; read = read i; taken = taken i; text = text i })

  pub parts_played : (records : ℕ) (parts : List (List ℕ)) (p : Playing) → Whole records parts → play_parts s p parts ≡ play_part s p (joined parts)
  unfolding play_parts joined Whole
  parts_played records [] p h = part_none p
  parts_played records (part ∷ []) p h = rw (append-nil part)
  parts_played records (part ∷ next ∷ parts) p h =
      parts_played records (next ∷ parts) (play_part s p part) h.1 ∙ part_behind records p part (joined (next ∷ parts)) h.0

  -- the text written part by part is the night's
  pub parts_text_is : (records : ℕ) (lists : List ℕ) (parts : List (List ℕ)) → Whole records parts → parts_text s lists parts ≡ night_text s lists (pieces (joined parts))
  unfolding parts_text night_text play_part
  parts_text_is records lists parts h =
      let turns = pieces (joined parts) in
      rw (parts_played records parts (record { card = fresh_card s; read = 0; taken = 0; text = [] }) h, length_replies s (fresh_card s) turns, zero-add (length turns), zero-add (taken_in (replies s (fresh_card s) turns)))

-- what stands before the place is the text
pub printed : (out text : List ℕ) (w : Written) → w ≡ write out 0 text → length text ≤ length out → take w.place w.bytes ≡ text
unfolding write
printed out text w e h =
    rw (e, sets-eq text out 0 (omega arith), zero-add (length text)) (take-append_seam text _)
