-- What the tables show of a history, and that they still do when an object takes a step: a write is written, a read leaves every cell.
use mathlib.Core.Path.{◌≡◌, refl, ap, ◌∙◌}
use mathlib.Core.Logic.{◌≢◌}
use mathlib.Core.Bool.{cond}
use Prim.Native.Nat.{ℕ, suc, ◌<◌}
use native.Mathlib.Omega.{arith}
use lib.ListN.{length}
use Rattle.model.specs.declared.Size.{Size}
use Rattle.model.specs.declared.Value.{Value}
use Rattle.model.specs.declared.Cell.{Cell}
use Rattle.model.specs.Size.{cell_records}
use Rattle.model.specs.Form.{length_of}
use Rattle.model.specs.Record.{no_cell, offered}
use Rattle.model.specs.Table.{Tables, offers, first_cells, second_cells, read_cell, write_cell, decision_at}
use Rattle.steady.proofs.Writes.{celled, other_section}
use Rattle.protocol.specs.AdoptCommit.{Marked}
use Rattle.protocol.specs.Put.{put_at}
use Rattle.protocol.specs.Layer.{written, read}
use Rattle.protocol.specs.Object.{Object, write_first, read_first, write_second, read_second}
use Rattle.protocol.specs.History.{History, has_offered, log_of}
use Rattle.model.specs.Step.{After}
use Rattle.night.specs.View.{first_of, marked_cell, second_of, source_of, LogView, RackView}
use Rattle.night.proofs.View.Cells.{spot, unchanged_shown, read_shown, write_shown}

pub record TablesView (s : Size) (t : Tables) (h : History Marked) : Type 0 where
  pub offers_shown : (r lane q : ℕ) → r < s.rounds → lane < s.lanes → q < s.racks
      → read_cell s t.cells offers (suc r) lane q ≡ cond (has_offered (h.racks q) r) (offered ((h.racks q).held r lane)) no_cell
  pub firsts_shown : (r lane q : ℕ) → r < s.rounds → lane < s.lanes → q < s.racks
      → read_cell s t.cells first_cells (suc r) lane q ≡ first_of ((h.objects r lane).firsts q).cell
  pub seconds_shown : (r lane q : ℕ) → r < s.rounds → lane < s.lanes → q < s.racks
      → read_cell s t.cells second_cells (suc r) lane q ≡ second_of ((h.objects r lane).seconds q).cell
  pub decisions_shown : (r lane : ℕ) → r < s.rounds → lane < s.lanes
      → decision_at s t.decisions (suc r) lane ≡ source_of (h.decided r lane)
  pub logs_shown : (q lane : ℕ) → q < s.racks → lane < s.lanes → LogView s t.logs q lane (log_of h q lane)

module _ (s : Size) (t : Tables) (h : History Marked) (v : TablesView s t h) (r₀ c₀ q : ℕ) (o : Object Marked) where
  -- the object of a round and lane has become another
  abbrev pub stepped : History Marked
  stepped = record { racks = h.racks; objects = put_at h.objects r₀ c₀ o; decided = h.decided }

  abbrev old : Object Marked
  old = h.objects r₀ c₀

  pub first_read_tables : o ≡ read_first old q → TablesView s t stepped
  first_read_tables e =
      record {
        offers_shown = v.offers_shown;
        firsts_shown =
            read_shown first_of (λ x. x.firsts) first_cells s t.cells h.objects v.firsts_shown r₀ c₀ q o
            (read old.firsts (old.firsts q)) (ap (λ (x : Object Marked). x.firsts) e) refl;
        seconds_shown =
            unchanged_shown second_of (λ x. x.seconds) second_cells s t.cells h.objects v.seconds_shown r₀ c₀ q o
            (ap (λ (x : Object Marked). x.seconds) e);
        decisions_shown = v.decisions_shown;
        logs_shown = v.logs_shown;
      }

  pub second_read_tables : o ≡ read_second old q → TablesView s t stepped
  second_read_tables e =
      record {
        offers_shown = v.offers_shown;
        firsts_shown =
            unchanged_shown first_of (λ x. x.firsts) first_cells s t.cells h.objects v.firsts_shown r₀ c₀ q o
            (ap (λ (x : Object Marked). x.firsts) e);
        seconds_shown =
            read_shown second_of (λ x. x.seconds) second_cells s t.cells h.objects v.seconds_shown r₀ c₀ q o
            (read old.seconds (old.seconds q)) (ap (λ (x : Object Marked). x.seconds) e) refl;
        decisions_shown = v.decisions_shown;
        logs_shown = v.logs_shown;
      }

  module _ (long : length t.cells.bytes ≡ length_of t.cells (cell_records s)) (b₀ : r₀ < s.rounds) (l₀ : c₀ < s.lanes) (q₀ : q < s.racks) where
    -- a write leaves the other sections
    other : (section : ℕ) (c : Cell) → section < 3 → (section' : ℕ) → section' < 3 → section' ≢ section → (r lane p : ℕ)
        → r < s.rounds → lane < s.lanes → p < s.racks
        → read_cell s (write_cell s t.cells section (suc r₀) c₀ q c) section' (suc r) lane p ≡ read_cell s t.cells section' (suc r) lane p
    other section c i section' i' d r lane p b l u =
        other_section s t.cells section (suc r₀) c₀ q c (spot s section r₀ c₀ q i b₀ l₀ q₀) section' d (suc r) lane p
        (spot s section' r lane p i' b l u)

    pub first_write_tables : (x : Value) → o ≡ write_first old q x
        → TablesView s (celled t (write_cell s t.cells first_cells (suc r₀) c₀ q (offered x))) stepped
    first_write_tables x e =
        let keep = other first_cells (offered x) (omega arith) in
        record {
          offers_shown = λ r lane p b l u. keep offers (omega arith) (λ d. omega arith) r lane p b l u ∙ v.offers_shown r lane p b l u;
          firsts_shown =
              write_shown first_of (λ y. y.firsts) first_cells s t.cells h.objects v.firsts_shown r₀ c₀ q o
              (written x) (ap (λ (y : Object Marked). y.firsts) e) long (omega arith) b₀ l₀ q₀;
          seconds_shown =
              λ r lane p b l u.
              keep second_cells (omega arith) (λ d. omega arith) r lane p b l u
              ∙ unchanged_shown second_of (λ y. y.seconds) second_cells s t.cells h.objects v.seconds_shown r₀ c₀ q o
              (ap (λ (y : Object Marked). y.seconds) e) r lane p b l u;
          decisions_shown = v.decisions_shown;
          logs_shown = v.logs_shown;
        }

    pub second_write_tables : (m : Marked) → o ≡ write_second old q m
        → TablesView s (celled t (write_cell s t.cells second_cells (suc r₀) c₀ q (marked_cell m))) stepped
    second_write_tables m e =
        let keep = other second_cells (marked_cell m) (omega arith) in
        record {
          offers_shown = λ r lane p b l u. keep offers (omega arith) (λ d. omega arith) r lane p b l u ∙ v.offers_shown r lane p b l u;
          firsts_shown =
              λ r lane p b l u.
              keep first_cells (omega arith) (λ d. omega arith) r lane p b l u
              ∙ unchanged_shown first_of (λ y. y.firsts) first_cells s t.cells h.objects v.firsts_shown r₀ c₀ q o
              (ap (λ (y : Object Marked). y.firsts) e) r lane p b l u;
          seconds_shown =
              write_shown second_of (λ y. y.seconds) second_cells s t.cells h.objects v.seconds_shown r₀ c₀ q o
              (written m) (ap (λ (y : Object Marked). y.seconds) e) long (omega arith) b₀ l₀ q₀;
          decisions_shown = v.decisions_shown;
          logs_shown = v.logs_shown;
        }

-- what a rack's step has to leave: tables that show the history after it, and a rack that does
pub record AfterView (s : Size) (q : ℕ) (after : After) (h : History Marked) : Type 0 where
  pub tables : TablesView s after.tables h
  pub rack : RackView s h q after.rack
