-- A step that changes one rack of the history, but no object: what the tables and that rack have to show.
use mathlib.Core.Path.{◌≡◌, sym}
use mathlib.Core.Logic.{◌≢◌}
use mathlib.Core.Bool.{cond}
use mathlib.Core.Option.{Option, none}
use Prim.Native.Nat.{ℕ, suc, ◌<◌}
use Rattle.model.specs.declared.Size.{Size}
use Rattle.model.specs.declared.Rack as card
use Rattle.model.specs.Record.{no_cell, offered}
use Rattle.model.specs.Table.{Tables, offers, first_cells, second_cells, read_cell, decision_at}
use Rattle.protocol.specs.AdoptCommit.{Marked}
use Rattle.protocol.specs.Put.{put}
use Rattle.protocol.specs.History.{Rack, History, has_offered, log_of}
use Rattle.protocol.proofs.Put.{put_same, put_all}
use Rattle.night.specs.View.{first_of, second_of, source_of, LogView, RackView}
use Rattle.night.proofs.View.Seen.{slots_of, same_view}
use Rattle.night.proofs.View.Tables.{TablesView}

-- the history with another rack q, and other decisions
abbrev pub racked : History Marked → ℕ → Rack → (ℕ → ℕ → Option ℕ) → History Marked
racked h q a decided = record { racks = put h.racks q a; objects = h.objects; decided = decided }

-- the history in which every rack is in one state
abbrev pub all_racks : History Marked → Rack → History Marked
all_racks h a = record { racks = λ _. a; objects = h.objects; decided = h.decided }

module _ (s : Size) (h : History Marked) (q : ℕ) (a : Rack) (decided : ℕ → ℕ → Option ℕ) where
  -- the rack itself shows its own state alone
  pub rack_changed : (r : card.Rack) → RackView s (all_racks h a) q r → RackView s (racked h q a decided) q r
  rack_changed r v =
      same_view s q r (all_racks h a) (racked h q a decided)
      (λ i. record {
        racks = λ _. sym (put_same h.racks q a) i;
        objects = λ r lane. slots_of (h.objects r lane) q;
        decided = λ _ _. none;
      })
      v

  module _ (t : Tables)
      (offers_here : (r lane : ℕ) → r < s.rounds → lane < s.lanes
      → read_cell s t.cells offers (suc r) lane q ≡ cond (has_offered a r) (offered (a.held r lane)) no_cell)
      (offers-else : (r lane p : ℕ) → p ≢ q → r < s.rounds → lane < s.lanes → p < s.racks
      → read_cell s t.cells offers (suc r) lane p ≡ cond (has_offered (h.racks p) r) (offered ((h.racks p).held r lane)) no_cell)
      (logs-here : (lane : ℕ) → lane < s.lanes → LogView s t.logs q lane (a.log a.finished lane))
      (logs-else : (p lane : ℕ) → p ≢ q → p < s.racks → lane < s.lanes → LogView s t.logs p lane (log_of h p lane)) where
    pub tables_changed :
        ((r lane p : ℕ) → r < s.rounds → lane < s.lanes → p < s.racks
        → read_cell s t.cells first_cells (suc r) lane p ≡ first_of ((h.objects r lane).firsts p).cell)
        → ((r lane p : ℕ) → r < s.rounds → lane < s.lanes → p < s.racks
        → read_cell s t.cells second_cells (suc r) lane p ≡ second_of ((h.objects r lane).seconds p).cell)
        → ((r lane : ℕ) → r < s.rounds → lane < s.lanes → decision_at s t.decisions (suc r) lane ≡ source_of (decided r lane))
        → TablesView s t (racked h q a decided)
    tables_changed firsts seconds decisions =
        record {
          offers_shown =
              λ r lane p b l u.
              put_all h.racks q a
              (λ p x. p < s.racks → read_cell s t.cells offers (suc r) lane p ≡ cond (has_offered x r) (offered (x.held r lane)) no_cell)
              (λ _. offers_here r lane b l)
              (λ p d u. offers-else r lane p d b l u)
              p u;
          firsts_shown = firsts;
          seconds_shown = seconds;
          decisions_shown = decisions;
          logs_shown =
              λ p lane u l.
              put_all h.racks q a (λ p x. p < s.racks → LogView s t.logs p lane (x.log x.finished lane))
              (λ _. logs-here lane l)
              (λ p d u. logs-else p lane d u l)
              p u;
        }
