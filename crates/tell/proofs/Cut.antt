-- The first bytes of cues.rec say all of its cues: each good record takes a place of the lists that was free, and there are no more than 2,048.
use mathlib.Core.Path.{◌≡◌, refl, sym, ap, ◌∙◌}
use mathlib.Core.Logic.{◌≢◌}
use mathlib.Core.List.{List, [], ◌∷◌, ◌++◌}
use mathlib.Core.Bool.{true, false, cond, not, ◌&&◌, ◌||◌}
use Prim.Native.Nat.{ℕ, zero, suc, ◌+◌, ◌*◌, ◌≤◌, ◌<◌}
use native.Mathlib.Omega.{arith}
use borrow.Author.Tests.{leb-false, eqb-true}
use lib.Dec.{eqb, leb}
use lib.ListN.{length, get_or, take, drop, take-append-drop}
use lib.Seq.{take_all, length-take-le}
use Rattle.laws.proofs.Cases.{either, bool, eq_or_ne, lt_or_ge, and_true, true_and, or_false}
use Rattle.model.specs.declared.Cue.{Cue}
use Rattle.model.specs.Record.{no_cue, same_cue, Logs, store_entry}
use Rattle.model.specs.Form.{stored}
use Rattle.model.specs.InUse.{logs_of}
use Rattle.model.specs.Size.{within}
use Rattle.model.specs.Cues.{list_most, lists_length, lists_fit, list_start, list_length, bad_cue, listed, add_cue}
use Rattle.model.specs.Night.{pieces}
use Rattle.model.specs.Sheet.{load_cues, sheet, size_of}
use Rattle.model.proofs.Record.{Room, load_store, load_other}
use Rattle.model.proofs.Length.{zero_at, length_end}
use Rattle.cues.specs.Adding.{out_of_range}
use Rattle.cues.proofs.Lists.{bad_apart, few_lists, placed}
use Rattle.turns.proofs.Pieces.{pieces_count}
use Rattle.tell.specs.Cut.{records_read, cues_read}
use Rattle.tell.proofs.Parts.{pieces_append}

-- how many of a table's first records are not zero
unfoldable used : Logs → ℕ → ℕ
used table zero = 0
used table (suc i) = cond (zero_at table i) 0 1 + used table i

used_most : (table : Logs) (i : ℕ) → used table i ≤ i
unfolding used
used_most table zero = omega arith
used_most table (suc i) =
    either (bool (zero_at table i))
    (λ z. rw z (omega (arith, used_most table i)))
    (λ u. rw u (omega (arith, used_most table i)))

module _ (table : Logs) (p : ℕ) (c : Cue) where
  -- a store changes no record before it
  used_before : (i : ℕ) → i ≤ p → used (store_entry table p c) i ≡ used table i
  unfolding used
  used_before zero h = refl
  used_before (suc i) h =
      let d : i ≢ p = λ e. omega arith in
      rw (load_other table p c i d, used_before i (omega arith))

  -- one more record is not zero when such a one is stored over a zero one
  used_store : Room table p → zero_at table p ≡ true → same_cue c no_cue ≡ false → (i : ℕ) → p < i
      → used (store_entry table p c) i ≡ suc (used table i)
  unfolding used
  used_store r z u zero h = absurd (omega arith)
  used_store r z u (suc i) h =
      either (eq_or_ne i p)
      (λ (e : i ≡ p). rw (e, load_store table p c r, u, z) (omega (arith, used_before p (omega arith))))
      (λ (d : i ≢ p). rw (load_other table p c i d) (omega (arith, used_store r z u i (omega arith))))

module _ (n k : ℕ) where
  -- how many places the lists have
  abbrev places : ℕ
  places = n * k * list_most

  -- what fits has two bytes for each place, and at most 32 lists
  record Fit (lists : List ℕ) : Type 0 where
    exact : length lists ≡ 2 * places
    few : places ≤ 2048

  fit_facts : (lists : List ℕ) → lists_fit n k lists ≡ true → Fit lists
  unfolding lists_fit lists_length
  fit_facts lists e =
      let t = and_true (within 1 8 n) (within 1 4 k && eqb (length lists) (2 * places)) e in
      let u = and_true (within 1 4 k) (eqb (length lists) (2 * places)) t.1 in
      record { exact = eqb-true (length lists) (2 * places) u.1; few = omega (arith, few_lists n k (true_and t.0 u.0)) }

  -- the code of a record in range is not zero
  coded : (cue : List ℕ) → out_of_range n k cue ≡ false → same_cue (record { issuer = get_or cue 2 0; number = get_or cue 3 0 }) no_cue ≡ false
  unfolding out_of_range same_cue
  coded cue e =
      let code = eqb (get_or cue 2 0) 0 && eqb (get_or cue 3 0) 0 in
      let t = or_false (not (eqb (length cue) 4)) (leb n (get_or cue 0 0) || (leb k (get_or cue 1 0) || code)) e in
      let u = or_false (leb n (get_or cue 0 0)) (leb k (get_or cue 1 0) || code) t.1 in
      (or_false (leb k (get_or cue 1 0)) code u.1).1

  -- a good record takes one more place
  listed_more : (lists cue : List ℕ) → lists_fit n k lists ≡ true → bad_cue n k lists cue ≡ false
      → used (logs_of (listed k lists cue)) places ≡ suc (used (logs_of lists) places)
  unfolding listed stored
  listed_more lists cue e good =
      let rack = get_or cue 0 0 in
      let lane = get_or cue 1 0 in
      let t = or_false (out_of_range n k cue) (leb list_most (list_length k lists rack lane)) (sym (bad_apart n k lists cue) ∙ good) in
      let room = leb-false list_most (list_length k lists rack lane) t.1 in
      let inside = (placed n k lists cue e t.0).within in
      let fit = fit_facts lists e in
      used_store (logs_of lists) (list_start k rack lane + list_length k lists rack lane) (record { issuer = get_or cue 2 0; number = get_or cue 3 0 }) (omega arith)
      (length_end (logs_of lists) (list_start k rack lane) list_most room) (coded cue t.0) places (omega arith)

  -- what a record that is taken says
  record Taken (lists after : List ℕ) : Type 0 where
    fit : lists_fit n k lists ≡ true
    more : used (logs_of after) places ≡ suc (used (logs_of lists) places)

  added_more : (lists cue : List ℕ) → (add_cue n k lists cue).number ≡ 0 → Taken lists (add_cue n k lists cue).lists
  unfolding add_cue
  added_more lists cue z =
      either (bool (lists_fit n k lists))
      (λ e. either (bool (bad_cue n k lists cue))
      (λ f. let no : ◌≡◌ {A = ℕ} 10 0 = rw (e, f) at z in absurd (omega arith))
      (λ f. rw (e, f) (record { fit = e; more = listed_more lists cue e f })))
      (λ e. let no : ◌≡◌ {A = ℕ} 1 0 = rw e at z in absurd (omega arith))

  -- with more records than free places one of them is bad, and nothing behind it matters
  stops : (records more : List (List ℕ)) (lists : List ℕ) (i : ℕ) → 0 < length records
      → (lists_fit n k lists ≡ true → places < used (logs_of lists) places + length records)
      → load_cues n k lists i (records ++ more) ≡ load_cues n k lists i records
  unfolding load_cues
  stops [] more lists i some full = absurd (omega arith)
  stops (cue ∷ records) more lists i some full =
      either (bool (eqb (add_cue n k lists cue).number 0))
      (λ z. let t = added_more lists cue (eqb-true _ 0 z) in
      let next : places < used (logs_of (add_cue n k lists cue).lists) places + length records = omega (arith, t.more, full t.fit) in
      rw z (stops records more (add_cue n k lists cue).lists (suc i) (omega (arith, used_most (logs_of (add_cue n k lists cue).lists) places)) (λ _. next)))
      (λ f. rw f)

  -- the first records say all, if they are more than all lists have places
  pub cut_records : (count : ℕ) (bytes lists : List ℕ) (i : ℕ) → 2048 < count
      → load_cues n k lists i (pieces (take (4 * count) bytes)) ≡ load_cues n k lists i (pieces bytes)
  cut_records count bytes lists i h =
      either (lt_or_ge (4 * count) (length bytes))
      (λ (g : 4 * count < length bytes).
      let first = take (4 * count) bytes in
      let exact : length first ≡ 4 * count = length-take-le (4 * count) bytes (omega arith) in
      let apart : pieces bytes ≡ pieces first ++ pieces (drop (4 * count) bytes) =
      ap pieces (sym (take-append-drop (4 * count) bytes)) ∙ pieces_append count first (drop (4 * count) bytes) exact
      in
      let many : length (pieces first) ≡ count = omega (arith, pieces_count first) in
      rw apart (sym (stops (pieces first) (pieces (drop (4 * count) bytes)) lists i (omega arith) (λ e. omega (arith, (fit_facts lists e).few)))))
      (λ (g : length bytes ≤ 4 * count). rw (take_all (4 * count) bytes g))

  -- so do the first bytes that are read
  pub cut : (bytes lists : List ℕ) (i : ℕ) → load_cues n k lists i (pieces (take cues_read bytes)) ≡ load_cues n k lists i (pieces bytes)
  cut bytes lists i = cut_records records_read bytes lists i (omega arith)

-- the sheet is that of the bytes read of cues.rec
pub sheet_cut : (size cues turns : List ℕ) → sheet size (take cues_read cues) turns ≡ sheet size cues turns
unfolding sheet
sheet_cut size cues turns = rw (cut (size_of size).racks (size_of size).lanes cues _ 0)
