-- What a rack makes of sound cells is sound: its second cell, its result and its news.
use mathlib.Core.Path.{◌≡◌, refl}
use mathlib.Core.Logic.{◌≢◌}
use mathlib.Core.List.{List}
use mathlib.Core.Bool.{Bool, true, false, cond, not, ◌&&◌, ◌||◌}
use Prim.Native.Nat.{ℕ, zero, suc, ◌<◌}
use native.Mathlib.Omega.{arith}
use lib.Dec.{ltb}
use lib.ListN.{get_or}
use borrow.Author.Tests.{not-true}
use Rattle.laws.proofs.Cases.{either, bool, eq_or_ne, and_true, clash_bool}
use Rattle.model.specs.declared.Size.{Size}
use Rattle.model.specs.declared.Value.{Value}
use Rattle.model.specs.declared.Cell.{Cell}
use Rattle.model.specs.Record.{no_cell, adopted, committed, is_empty, is_committed}
use Rattle.model.specs.Table.{second_cells}
use Rattle.model.specs.Block.{all_equal_own, higher, greatest, second_cell, all_back_own, sooner, first_committed, adopted_value, result_of, newer, newest, news}
use Rattle.model.specs.Sound.{mark_fits, sound_value, sound_cell}
use Rattle.steady.proofs.Cells.{sound_cell_is}

-- of two cells that are not empty, or of one, something is left
module _ (best c : Cell) where
  newer_keeps : is_empty best ≡ false → is_empty (newer best c) ≡ false
  unfolding newer
  newer_keeps f =
      either (bool (not (is_empty c) && (is_empty best || ltb best.value.place c.value.place)))
      (λ t. rw t (not-true (is_empty c) (and_true (not (is_empty c)) _ t).0))
      (λ e. rw e f)

  newer_takes : is_empty c ≡ false → is_empty (newer best c) ≡ false
  unfolding newer
  newer_takes f =
      either (bool (is_empty best))
      (λ e. rw (f, e) f)
      (λ e. newer_keeps e)

newest_keeps : (cells : List Cell) (best : Cell) (n : ℕ) → is_empty best ≡ false → is_empty (newest cells best n) ≡ false
unfolding newest
newest_keeps cells best zero f = f
newest_keeps cells best (suc n) f = newer_keeps (newest cells best n) (get_or cells n no_cell) (newest_keeps cells best n f)

newest_takes : (cells : List Cell) (best : Cell) (n i : ℕ) → i < n → is_empty (get_or cells i no_cell) ≡ false → is_empty (newest cells best n) ≡ false
unfolding newest
newest_takes cells best zero i h f = absurd (omega arith)
newest_takes cells best (suc n) i h f =
    either (eq_or_ne i n)
    (λ (e : i ≡ n). newer_takes (newest cells best n) (get_or cells n no_cell) (rw (← e) f))
    (λ (d : i ≢ n). newer_keeps (newest cells best n) (get_or cells n no_cell) (newest_takes cells best n i (omega arith) f))

module _ (s : Size) where
  -- a cell that is empty or holds a sound value
  abbrev pub Carries : Cell → Type 0
  Carries c = is_empty c ≡ false → sound_value s c.value ≡ true

  abbrev pub AllCarry : List Cell → ℕ → Type 0
  AllCarry cells n = (i : ℕ) → i < n → Carries (get_or cells i no_cell)

  higher_sound : (best : Value) (c : Cell) → sound_value s best ≡ true → Carries c → sound_value s (higher best c) ≡ true
  unfolding higher
  higher_sound best c v f =
      either (bool (not (is_empty c) && ltb best.place c.value.place))
      (λ t. rw t (f (not-true (is_empty c) (and_true (not (is_empty c)) _ t).0)))
      (λ e. rw e v)

  greatest_sound : (firsts : List Cell) (own : Value) (n : ℕ) → sound_value s own ≡ true → AllCarry firsts n
      → sound_value s (greatest firsts own n) ≡ true
  unfolding greatest
  greatest_sound firsts own zero v f = v
  greatest_sound firsts own (suc n) v f =
      higher_sound (greatest firsts own n) (get_or firsts n no_cell)
      (greatest_sound firsts own n v (λ i h. f i (omega arith)))
      (f n (omega arith))

  -- a committed or adopted value
  either_sound : (b : Bool) (v w : Value) → sound_value s v ≡ true → sound_value s w ≡ true
      → sound_cell s second_cells (cond b (committed v) (adopted w)) ≡ true
  unfolding mark_fits
  either_sound true v w e f = sound_cell_is s second_cells (committed v) refl refl e
  either_sound false v w e f = sound_cell_is s second_cells (adopted w) refl refl f

  either_full : (b : Bool) (v w : Value) → is_empty (cond b (committed v) (adopted w)) ≡ false
  either_full true v w = refl
  either_full false v w = refl

  pub second_sound : (firsts : List Cell) (own : Value) (n : ℕ) → sound_value s own ≡ true → AllCarry firsts n
      → sound_cell s second_cells (second_cell firsts own n) ≡ true
  unfolding second_cell
  second_sound firsts own n v f =
      either_sound (all_equal_own firsts own n) own (greatest firsts own n) v (greatest_sound firsts own n v f)

  pub second_full : (firsts : List Cell) (own : Value) (n : ℕ) → is_empty (second_cell firsts own n) ≡ false
  unfolding second_cell
  second_full firsts own n = either_full (all_equal_own firsts own n) own (greatest firsts own n)

  committed_carries : (seconds : List Cell) (n : ℕ) → AllCarry seconds n → Carries (first_committed seconds n)
  unfolding first_committed sooner
  committed_carries seconds zero f = λ e. clash_bool refl e
  committed_carries seconds (suc n) f =
      either (bool (is_empty (first_committed seconds n) && is_committed (get_or seconds n no_cell)))
      (λ t. rw t (f n (omega arith)))
      (λ e. rw e (committed_carries seconds n (λ i h. f i (omega arith))))

  adopted_sound : (seconds : List Cell) (second : Value) (n : ℕ) → sound_value s second ≡ true → AllCarry seconds n
      → sound_value s (adopted_value seconds second n) ≡ true
  unfolding adopted_value
  adopted_sound seconds second n v f =
      either (bool (is_empty (first_committed seconds n)))
      (λ t. rw t v)
      (λ e. rw e (committed_carries seconds n f e))

  module _ (seconds : List Cell) (own second : Value) (n : ℕ) where
    pub result_sound : sound_value s own ≡ true → sound_value s second ≡ true → AllCarry seconds n
        → sound_cell s second_cells (result_of seconds own second n) ≡ true
    unfolding result_of
    result_sound v w f = either_sound (all_back_own seconds own n) own (adopted_value seconds second n) v (adopted_sound seconds second n w f)

    pub result_full : is_empty (result_of seconds own second n) ≡ false
    unfolding result_of
    result_full = either_full (all_back_own seconds own n) own (adopted_value seconds second n)

  newest_carries : (cells : List Cell) (best : Cell) (n : ℕ) → Carries best → AllCarry cells n → Carries (newest cells best n)
  unfolding newest newer
  newest_carries cells best zero b f = b
  newest_carries cells best (suc n) b f =
      let so_far = newest cells best n in
      let c = get_or cells n no_cell in
      either (bool (not (is_empty c) && (is_empty so_far || ltb so_far.value.place c.value.place)))
      (λ t. rw t (f n (omega arith)))
      (λ e. rw e (newest_carries cells best n b (λ i h. f i (omega arith))))

  -- some first cell was not empty when it was read
  pub news_sound : (firsts seconds : List Cell) (n i : ℕ) → i < n → is_empty (get_or firsts i no_cell) ≡ false → AllCarry firsts n → AllCarry seconds n
      → sound_value s (news firsts seconds n) ≡ true
  unfolding news
  news_sound firsts seconds n i h full f g =
      newest_carries seconds (newest firsts no_cell n) n
      (newest_carries firsts no_cell n (λ e. clash_bool refl e) f)
      g
      (newest_keeps seconds (newest firsts no_cell n) n (newest_takes firsts no_cell n i h full))
