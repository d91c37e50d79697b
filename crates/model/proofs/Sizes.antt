-- Sizes and lengths that fit, as named facts.
use mathlib.Core.Path.{◌≡◌}
use mathlib.Core.Bool.{true, ◌&&◌}
use Prim.Native.Nat.{ℕ, ◌*◌, ◌≤◌}
use borrow.Author.Tests.{leb-true, eqb-true, eq-eqb}
use lib.Dec.{eqb, leb}
use lib.ListN.{length}
use Rattle.laws.proofs.Cases.{and_true, true_and}
use Rattle.laws.proofs.Index.{product_le}
use Rattle.model.specs.declared.Size.{Size}
use Rattle.model.specs.Size.{within, most_rounds, size_up_to, records, cell_records, log_records, decisions_length}
use Rattle.model.specs.Form.{length_of}
use Rattle.model.specs.Table.{Tables}
use Rattle.model.specs.Turn.{fits}

pub record Sizes (most : ℕ) (s : Size) : Type 0 where
  pub racks_low : 1 ≤ s.racks
  pub racks_high : s.racks ≤ 8
  pub lanes_low : 1 ≤ s.lanes
  pub lanes_high : s.lanes ≤ 4
  pub rounds_low : 1 ≤ s.rounds
  pub rounds_high : s.rounds ≤ most

-- "n, k or R outside its range, or a lent length not exact": neither, as named facts
pub record Exact (s : Size) (t : Tables) : Type 0 where
  pub size : size_up_to t.cells.form.most s ≡ true
  pub cells : length t.cells.bytes ≡ length_of t.cells (cell_records s)
  pub logs : length t.logs.bytes ≡ length_of t.logs (log_records s)
  pub decisions : length t.decisions ≡ decisions_length s

module _ (s : Size) where
  pub sizes : {most : ℕ} → size_up_to most s ≡ true → Sizes most s
  unfolding size_up_to
  sizes {most} e =
      let p = and_true (within 1 8 s.racks) (within 1 4 s.lanes && within 1 most s.rounds) e in
      let q = and_true (within 1 4 s.lanes) (within 1 most s.rounds) p.1 in
      let n = and_true (leb 1 s.racks) (leb s.racks 8) p.0 in
      let k = and_true (leb 1 s.lanes) (leb s.lanes 4) q.0 in
      let r = and_true (leb 1 s.rounds) (leb s.rounds most) q.1 in
      record {
        racks_low = leb-true 1 s.racks n.0;
        racks_high = leb-true s.racks 8 n.1;
        lanes_low = leb-true 1 s.lanes k.0;
        lanes_high = leb-true s.lanes 4 k.1;
        rounds_low = leb-true 1 s.rounds r.0;
        rounds_high = leb-true s.rounds most r.1;
      }

  -- the products of sizes are small
  pub rows_most : Sizes most_rounds s → s.rounds * s.lanes ≤ 256
  rows_most z = product_le {a = s.rounds} {b = s.lanes} {x = most_rounds} {y = 4} z.rounds_high z.lanes_high

  pub records_most : Sizes most_rounds s → records s ≤ 2048
  records_most z = product_le {a = s.rounds * s.lanes} {b = s.racks} {x = 256} {y = 8} (rows_most z) z.racks_high

  module _ (t : Tables) where
    pub fits_size : fits s t ≡ true → size_up_to t.cells.form.most s ≡ true
    unfolding fits
    fits_size e = (and_true (size_up_to t.cells.form.most s) _ e).0

    pub fits_exact : fits s t ≡ true → Exact s t
    unfolding fits
    fits_exact e =
        let p = and_true (size_up_to t.cells.form.most s) _ e in
        let q = and_true (eqb (length t.cells.bytes) (length_of t.cells (cell_records s))) _ p.1 in
        let u = and_true (eqb (length t.logs.bytes) (length_of t.logs (log_records s))) _ q.1 in
        record {
          size = p.0;
          cells = eqb-true (length t.cells.bytes) (length_of t.cells (cell_records s)) q.0;
          logs = eqb-true (length t.logs.bytes) (length_of t.logs (log_records s)) u.0;
          decisions = eqb-true (length t.decisions) (decisions_length s) u.1;
        }

    pub exact_fits : Exact s t → fits s t ≡ true
    unfolding fits
    exact_fits x =
        true_and x.size
        (true_and (eq-eqb (length t.cells.bytes) (length_of t.cells (cell_records s)) x.cells)
        (true_and (eq-eqb (length t.logs.bytes) (length_of t.logs (log_records s)) x.logs) (eq-eqb (length t.decisions) (decisions_length s) x.decisions)))
