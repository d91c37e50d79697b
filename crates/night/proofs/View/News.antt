-- The news of the cells that a rack gathered is the news of the lists that these show.
use mathlib.Core.Path.{◌≡◌, refl, ap, ◌∙◌}
use mathlib.Core.Bool.{Bool, true, false, cond}
use mathlib.Core.Option
use mathlib.Core.Option.{Option, none, some}
use mathlib.Core.List.{List, [], ◌∷◌, ◌++◌, map}
use Prim.Native.Nat.{ℕ, zero, suc}
use lib.Dec.{ltb}
use lib.ListN.{length, get_or}
use Rattle.laws.proofs.Cases.{either, bool, clash_bool}
use Rattle.model.specs.declared.Value.{Value}
use Rattle.model.specs.declared.Cell.{Cell}
use Rattle.model.specs.Record.{no_value, no_cell, adopted, committed, is_empty}
use Rattle.model.specs.Block.{newer, newest, news}
use Rattle.protocol.specs.AdoptCommit.{Marked}
use Rattle.protocol.specs.Choice.{higher, greatest, foremost}
use Rattle.protocol.specs.FirstEdition as edition
use Rattle.night.specs.View.{first_of, second_of}
use Rattle.night.proofs.View.Walk.{Shows, counted, walk}

newest_counted : (cells : List Cell) (best : Cell) (n : ℕ) → newest cells best n ≡ counted newer cells best n
unfolding newest counted
newest_counted cells best zero = refl
newest_counted cells best (suc n) = ap (λ (c : Cell). newer c (get_or cells n no_cell)) (newest_counted cells best n)

-- the news that comes of the best cell so far and of the values that are left
front : Cell → List (Option Value) → Value
front best rest = cond (is_empty best) (foremost rest) (greatest best.value rest)

-- an empty best cell is the first one, and the news is known from the start
record Leads (end : Value) (best : Cell) (rest : List (Option Value)) : Type 0 where
  empty : is_empty best ≡ true → best.value ≡ no_value
  ahead : front best rest ≡ end

module _ (end : Value) (best : Cell) (rest : List (Option Value)) where
  none_leads : Leads end best (none ∷ rest) → Leads end (newer best no_cell) rest
  unfolding newer front foremost greatest
  none_leads k = record { empty = k.empty; ahead = k.ahead }

  -- a cell that is not empty
  module _ (c : Cell) (full : is_empty c ≡ false) where
    higher_leads : (b : Bool) → ltb best.value.place c.value.place ≡ b → is_empty best ≡ false
        → Leads end best (some c.value ∷ rest) → Leads end (newer best c) rest
    unfolding newer front greatest higher
    higher_leads true e f k =
        let old : greatest (higher best.value c.value) rest ≡ end = rw f at k.ahead in
        rw (full, f, e) (record { empty = λ t. clash_bool t full; ahead = rw full (rw e at old) })
    higher_leads false e f k =
        let old : greatest (higher best.value c.value) rest ≡ end = rw f at k.ahead in
        rw (full, f, e) (record { empty = λ t. clash_bool t f; ahead = rw f (rw e at old) })

    first_leads : is_empty best ≡ true → Leads end best (some c.value ∷ rest) → Leads end (newer best c) rest
    unfolding newer front foremost
    first_leads f k =
        let old : greatest c.value rest ≡ end = rw f at k.ahead in
        rw (full, f) (record { empty = λ t. clash_bool t full; ahead = rw full old })

    some_leads : Leads end best (some c.value ∷ rest) → Leads end (newer best c) rest
    some_leads k =
        either (bool (is_empty best))
        (λ f. first_leads f k)
        (λ f. higher_leads (ltb best.value.place c.value.place) refl f k)

  marked_leads : (b : Bool) (v : Value) → Leads end best (some v ∷ rest) → Leads end (newer best (cond b (committed v) (adopted v))) rest
  marked_leads true v k = some_leads (committed v) refl k
  marked_leads false v k = some_leads (adopted v) refl k

first_step : (end : Value) (later : List (Option Value)) (best : Cell) (o : Option Value) (rest : List (Option Value))
    → Leads end best ((o ∷ rest) ++ later) → Leads end (newer best (first_of o)) (rest ++ later)
first_step end later best none rest k = none_leads end best (rest ++ later) k
first_step end later best (some v) rest k = some_leads end best (rest ++ later) (first_of (some v)) refl k

abbrev values : List (Option Marked) → List (Option Value)
values list = map (Option.map edition.value_of) list

second_step : (end : Value) (best : Cell) (o : Option Marked) (rest : List (Option Marked))
    → Leads end best (values (o ∷ rest)) → Leads end (newer best (second_of o)) (values rest)
second_step end best none rest k = none_leads end best (values rest) k
second_step end best (some m) rest k = marked_leads end best (values rest) m.committed m.value k

module _ (firsts seconds : List Cell) (list : List (Option Value)) (list' : List (Option Marked))
    (h : Shows first_of firsts list) (h' : Shows second_of seconds list') where
  abbrev end : Value
  end = edition.news list list'

  abbrev middle : Cell
  middle = counted newer firsts no_cell (length list)

  past_firsts : Leads end middle (values list')
  unfolding edition.news front
  past_firsts =
      walk newer first_of (λ best rest. Leads end best (rest ++ values list')) (first_step end (values list'))
      firsts list no_cell h (record { empty = λ t. refl; ahead = refl })

  past_seconds : Leads end (counted newer seconds middle (length list')) []
  past_seconds = walk newer second_of (λ best rest. Leads end best (values rest)) (second_step end) seconds list' middle h' past_firsts

  at_end : (best : Cell) → Leads end best [] → best.value ≡ end
  unfolding front foremost greatest
  at_end best k =
      either (bool (is_empty best))
      (λ e. k.empty e ∙ (rw e at k.ahead))
      (λ e. rw e at k.ahead)

  pub news_seen : (n : ℕ) → length list ≡ n → length list' ≡ n → news firsts seconds n ≡ edition.news list list'
  unfolding news
  news_seen n e f =
      ap (λ (c : Cell). c.value)
      (newest_counted seconds (newest firsts no_cell n) n ∙ ap (λ (c : Cell). counted newer seconds c n) (newest_counted firsts no_cell n))
      ∙ at_end (counted newer seconds (counted newer firsts no_cell n) n) (rw (e, f) at past_seconds)
