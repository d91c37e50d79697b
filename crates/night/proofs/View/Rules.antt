-- What a rack makes of the cells that it gathered is what the first edition makes of the lists that these show: its second cell and its
-- result.
use mathlib.Core.Path.{◌≡◌, refl, sym, ap, ◌∙◌}
use mathlib.Core.Bool.{Bool, true, false, cond, ◌&&◌}
use mathlib.Core.Option.{Option, none, some}
use mathlib.Core.List.{List, ◌∷◌}
use Prim.Native.Nat.{ℕ, zero, suc}
use lib.ListN.{length, get_or}
use Rattle.laws.specs.Below.{below}
use Rattle.model.specs.declared.Value.{Value}
use Rattle.model.specs.declared.Cell.{Cell}
use Rattle.model.specs.Record.{no_cell, adopted, committed, is_empty}
use Rattle.model.specs.Block.{equals_own, higher, greatest, second_cell, backs_own, sooner, first_committed, adopted_value, result_of}
use Rattle.protocol.specs.AdoptCommit.{Marked}
use Rattle.protocol.specs.Among.{all}
use Rattle.protocol.specs.Choice as protocol_choice
use Rattle.protocol.specs.Edition as protocol_edition
use Rattle.protocol.specs.FirstEdition as protocol_first
use Rattle.night.specs.View.{first_of, marked_cell, second_of}
use Rattle.night.proofs.View.Walk.{Shows, counted, walk}

-- a test of every cell
module _ {X : Type 0} (show : Option X → Cell) (test : Cell → Bool) (seen : Option X → Bool) (same : (o : Option X) → test (show o) ≡ seen o) where
  both : Bool → Cell → Bool
  both b c = b && test c

  is_counted : (cells : List Cell) (n : ℕ) → below n (λ i. test (get_or cells i no_cell)) ≡ counted both cells true n
  unfolding counted both
  is_counted cells zero = refl
  is_counted cells (suc n) = ap (λ (b : Bool). b && test (get_or cells n no_cell)) (is_counted cells n)

  joined : (b c d : Bool) → b && (c && d) ≡ (b && c) && d
  joined true c d = refl
  joined false c d = refl

  and_all : (b : Bool) → b && true ≡ b
  and_all true = refl
  and_all false = refl

  tested : (cells : List Cell) (list : List (Option X)) → Shows show cells list → below (length list) (λ i. test (get_or cells i no_cell)) ≡ all seen list
  unfolding both all
  tested cells list h =
      is_counted cells (length list)
      ∙ sym (and_all (counted both cells true (length list)))
      ∙ walk both show (λ b rest. b && all seen rest ≡ all seen list)
      (λ b o rest e. rw (same o) (sym (joined b (seen o) (all seen rest)) ∙ e))
      cells list true h refl

-- the cell of a value that is committed, or else of one that is adopted
marked : (b : Bool) (v w : Value)
    → cond b (committed v) (adopted w) ≡ marked_cell (cond b (record { committed = true; value = v }) (record { committed = false; value = w }))
marked true v w = refl
marked false v w = refl

-- from the first cells
module _ (cells : List Cell) (list : List (Option Value)) (h : Shows first_of cells list) (own : Value) where
  equal_own : (o : Option Value) → equals_own own (first_of o) ≡ protocol_choice.equals_own own o
  unfolding equals_own protocol_choice.equals_own
  equal_own none = refl
  equal_own (some w) = refl

  greatest_counted : (n : ℕ) → greatest cells own n ≡ counted higher cells own n
  unfolding greatest counted
  greatest_counted zero = refl
  greatest_counted (suc n) = ap (λ (b : Value). higher b (get_or cells n no_cell)) (greatest_counted n)

  higher_step : (end b : Value) (o : Option Value) (rest : List (Option Value)) → protocol_choice.greatest b (o ∷ rest) ≡ end
      → protocol_choice.greatest (higher b (first_of o)) rest ≡ end
  unfolding higher protocol_choice.higher protocol_choice.greatest
  higher_step end b none rest e = e
  higher_step end b (some w) rest e = e

  greatest_seen : greatest cells own (length list) ≡ protocol_choice.greatest own list
  unfolding protocol_choice.greatest
  greatest_seen =
      greatest_counted (length list)
      ∙ walk higher first_of (λ b rest. protocol_choice.greatest b rest ≡ protocol_choice.greatest own list)
      (higher_step (protocol_choice.greatest own list)) cells list own h refl

  second_long : second_cell cells own (length list) ≡ marked_cell (protocol_first.second_cell own list)
  unfolding second_cell protocol_first.second_cell
  second_long =
      rw (tested first_of (equals_own own) (protocol_choice.equals_own own) equal_own cells list h, greatest_seen)
      (marked (all (protocol_choice.equals_own own) list) own (protocol_choice.greatest own list))

  pub second_seen : (n : ℕ) → length list ≡ n → second_cell cells own n ≡ marked_cell (protocol_first.second_cell own list)
  second_seen n e = rw e at second_long

-- from the second cells
module _ (cells : List Cell) (list : List (Option Marked)) (h : Shows second_of cells list) (own second : Value) where
  marked_backs : (b : Bool) (v : Value)
      → backs_own own (cond b (committed v) (adopted v)) ≡ protocol_edition.backs_own own (some (record { committed = b; value = v }))
  unfolding backs_own protocol_edition.backs_own
  marked_backs true v = refl
  marked_backs false v = refl

  backs_own_is : (o : Option Marked) → backs_own own (second_of o) ≡ protocol_edition.backs_own own o
  unfolding backs_own protocol_edition.backs_own
  backs_own_is none = refl
  backs_own_is (some m) = marked_backs m.committed m.value

  first_counted : (n : ℕ) → first_committed cells n ≡ counted sooner cells no_cell n
  unfolding first_committed counted
  first_counted zero = refl
  first_counted (suc n) = ap (λ (c : Cell). sooner c (get_or cells n no_cell)) (first_counted n)

  -- what the first committed cell gives, if none is found yet or one is
  found : Cell → List (Option Marked) → Value
  found c rest = cond (is_empty c) (protocol_edition.first_committed second rest) c.value

  found_marked : (empty b : Bool) (c : Cell) (v : Value) (rest : List (Option Marked)) → is_empty c ≡ empty
      → found (sooner c (cond b (committed v) (adopted v))) rest ≡ found c (some (record { committed = b; value = v }) ∷ rest)
  unfolding found sooner protocol_edition.first_committed
  found_marked true true c v rest e = rw e
  found_marked true false c v rest e = rw (e, e)
  found_marked false true c v rest e = rw (e, e)
  found_marked false false c v rest e = rw (e, e)

  found_none : (empty : Bool) (c : Cell) (rest : List (Option Marked)) → is_empty c ≡ empty → found (sooner c no_cell) rest ≡ found c (none ∷ rest)
  unfolding found sooner protocol_edition.first_committed
  found_none true c rest e = rw (e, e)
  found_none false c rest e = rw (e, e)

  found_step : (c : Cell) (o : Option Marked) (rest : List (Option Marked)) → found (sooner c (second_of o)) rest ≡ found c (o ∷ rest)
  found_step c none rest = found_none (is_empty c) c rest refl
  found_step c (some m) rest = found_marked (is_empty c) m.committed c m.value rest refl

  adopted_seen : adopted_value cells second (length list) ≡ protocol_edition.first_committed second list
  unfolding adopted_value found protocol_edition.first_committed
  adopted_seen =
      rw (first_counted (length list))
      (walk sooner second_of (λ c rest. found c rest ≡ found no_cell list)
      (λ c o rest e. found_step c o rest ∙ e) cells list no_cell h refl)

  result_long : result_of cells own second (length list) ≡ marked_cell (protocol_edition.outcome own second list)
  unfolding result_of protocol_edition.outcome
  result_long =
      rw (tested second_of (backs_own own) (protocol_edition.backs_own own) backs_own_is cells list h, adopted_seen)
      (marked (all (protocol_edition.backs_own own) list) own (protocol_edition.first_committed second list))

  pub result_seen : (n : ℕ) → length list ≡ n → result_of cells own second n ≡ marked_cell (protocol_edition.outcome own second list)
  result_seen n e = rw e at result_long
