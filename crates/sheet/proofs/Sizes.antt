-- What a size that is given says, and the lengths of its tables.
use mathlib.Core.Path.{◌≡◌, ◌∙◌}
use mathlib.Core.List.{List}
use mathlib.Core.Bool.{true}
use Prim.Native.Nat.{ℕ, ◌*◌, ◌≤◌}
use native.Mathlib.Omega.{arith}
use borrow.Author.Tests.{eqb-true, eq-eqb, le-leb}
use lib.Dec.{eqb}
use lib.ListN.{length, get_or, take}
use lib.Seq.{length-take-le}
use Rattle.laws.proofs.Cases.{and_true, true_and}
use Rattle.laws.proofs.Index.{product_le}
use Rattle.model.specs.declared.Size.{Size}
use Rattle.model.specs.Size.{size_fits, records, cell_records, log_records, decisions_length}
use Rattle.model.specs.InUse.{tables_of}
use Rattle.model.specs.Turn.{fits}
use Rattle.model.specs.Cues.{lists_length, lists_fit}
use Rattle.model.specs.Sheet.{size_of, size_given}
use Rattle.model.proofs.Sizes.{sizes, exact_fits, rows_most, records_most}

pub given_four : (bytes : List ℕ) → size_given bytes ≡ true → length bytes ≡ 4
unfolding size_given
given_four bytes e = eqb-true (length bytes) 4 (and_true (eqb (length bytes) 4) _ e).0

pub given_fits : (bytes : List ℕ) → size_given bytes ≡ true → size_fits (size_of bytes) ≡ true
unfolding size_given
given_fits bytes e = (and_true (size_fits (size_of bytes)) (eqb (get_or bytes 3 0) 0) (and_true (eqb (length bytes) 4) _ e).1).0

module _ (s : Size) (e : size_fits s ≡ true) where
  pub few_records : records s ≤ 2048
  few_records = records_most s (sizes s e)

  pub few_rows : s.rounds * s.lanes ≤ 256
  few_rows = rows_most s (sizes s e)

  pub few_lists : s.racks * s.lanes ≤ 32
  few_lists = let z = sizes s e in product_le {x = 8} {y = 4} z.racks_high z.lanes_high

  pub lists_fit_is : (lists : List ℕ) → length lists ≡ 128 * (s.racks * s.lanes) → lists_fit s.racks s.lanes lists ≡ true
  unfolding lists_fit lists_length
  lists_fit_is lists h =
      let z = sizes s e in
      true_and (true_and (le-leb 1 _ z.racks_low) (le-leb _ 8 z.racks_high))
      (true_and (true_and (le-leb 1 _ z.lanes_low) (le-leb _ 4 z.lanes_high)) (eq-eqb (length lists) _ (omega arith)))

  -- the first bytes of arrays with room for the tables fit
  pub tables_fit : (count : ℕ) → count ≡ records s → (cells logs decisions : List ℕ) → 24 * count ≤ length cells → 2 * count ≤ length logs
      → s.rounds * s.lanes ≤ length decisions
      → fits s (tables_of (take (24 * count) cells) (take (2 * count) logs) (take (s.rounds * s.lanes) decisions)) ≡ true
  unfolding cell_records log_records decisions_length
  tables_fit count c cells logs decisions x y z =
      exact_fits s _
      (record {
        size = e;
        cells = omega (arith, length-take-le (24 * count) cells x, c);
        logs = length-take-le _ logs y ∙ rw c;
        decisions = length-take-le _ decisions z;
      })
