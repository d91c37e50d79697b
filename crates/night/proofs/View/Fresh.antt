-- The fresh card shows the fresh history.
use mathlib.Core.Path.{◌≡◌, refl, ◌∙◌}
use mathlib.Core.Logic.{◌≢◌}
use mathlib.Core.Bool.{true}
use Prim.Native.Nat.{ℕ, suc, ◌+◌, ◌<◌}
use native.Mathlib.Omega.{arith}
use borrow.Author.Tests.{lt-ltb, ne_eqb}
use lib.ListN.{replicate, get_or-replicate}
use Rattle.model.specs.declared.Size.{Size}
use Rattle.model.specs.Size.{size_fits, decisions_length, block_steps, most_rounds}
use Rattle.model.specs.InUse.{cells_length, logs_length, cell_form, entry_form, cells_of, logs_of}
use Rattle.model.specs.Record.{no_cue, no_value, no_cell, cell_at, entry_at}
use Rattle.model.specs.Table.{log_start, no_rack, undecided, decision_index, rack_at, held_at}
use Rattle.model.specs.Fresh.{own_first, fresh_rack, fresh_racks, fresh_card}
use Rattle.model.proofs.Sizes.{Sizes, sizes}
use Rattle.steady.proofs.Fresh.{empty_at, empty_spare}
use Rattle.model.proofs.Table.{decision_fits}
use Rattle.steady.proofs.Elements.{get_d_same, get_d_table}
use Rattle.steady.proofs.Logs.{length_is}
use Rattle.protocol.specs.AdoptCommit.{Marked}
use Rattle.protocol.specs.Object.{fresh, taken}
use Rattle.protocol.specs.FirstEdition.{first_edition}
use Rattle.protocol.specs.Log.{start}
use Rattle.protocol.specs.History.{fresh_history}
use Rattle.protocol.specs.Clock.{step_in}
use Rattle.protocol.proofs.Steps.{fresh_taken}
use Rattle.night.specs.View.{LogView, RackView, View}
use Rattle.night.proofs.View.Past.{not_yet}

-- zeros read as empty records
empty_cell : (n i : ℕ) → cell_at (cells_of (replicate n 0)) i ≡ no_cell
empty_cell n i = empty_at cell_form n i

empty_entry : (n i : ℕ) → entry_at (logs_of (replicate n 0)) i ≡ no_cue
empty_entry n i = empty_at entry_form n i

module _ (s : Size) (small : Sizes most_rounds s) where
  empty_log : (q lane : ℕ) → LogView s (logs_of (replicate (logs_length s) 0)) q lane start
  empty_log q lane =
      record {
        length =
            length_is s (record { table = logs_of (replicate (logs_length s) 0); start = log_start s q lane; length = 0 })
            (record {
              short = omega arith;
              used = λ i h. absurd (omega arith);
              rest = λ i h g. empty_entry (logs_length s) (log_start s q lane + i);
              clean = λ i h. empty_spare entry_form (logs_length s) (log_start s q lane + i);
            });
        entries = λ place g. absurd (omega arith);
      }

  rack_at_is : (q : ℕ) → q < s.racks → rack_at (fresh_racks s) q ≡ fresh_rack s q
  rack_at_is q l = let n = small.racks_high in get_d_table 8 _ q no_rack (omega arith) ∙ rw (lt-ltb q s.racks l)

  held_at_is : (q lane : ℕ) → lane < s.lanes → held_at (fresh_rack s q) lane ≡ own_first q
  held_at_is q lane l = let k = small.lanes_high in get_d_table 4 _ lane no_value (omega arith) ∙ rw (lt-ltb lane s.lanes l)

  unfinished : (q : ℕ) → taken {Y = Marked} fresh q ≢ block_steps s
  unfolding block_steps
  unfinished q e = let f = fresh_taken Marked q in omega arith

  rack_view : (q : ℕ) → RackView s (fresh_history first_edition) q (fresh_rack s q)
  unfolding step_in
  rack_view q =
      record {
        in_range = omega arith;
        round = refl;
        step = refl;
        first = refl;
        firsts = λ i l. get_or-replicate 8 i no_cell no_cell l;
        seconds = λ i l. get_or-replicate 8 i no_cell no_cell l;
        held = held_at_is q;
        results = λ lane l. rw (ne_eqb (taken {Y = Marked} fresh q) (block_steps s) (unfinished q)) (get_d_same 4 lane no_cell);
        news = λ lane l. rw (ne_eqb (taken {Y = Marked} fresh q) (block_steps s) (unfinished q)) (get_d_same 4 lane no_value);
      }

pub fresh_view : (s : Size) → size_fits s ≡ true → View s (fresh_card s) (fresh_history first_edition)
unfolding fresh_card
fresh_view s e =
    let small = sizes s e in
    record {
      offers_shown = λ r lane q b l u. rw (not_yet 0 r (omega arith)) (empty_cell (cells_length s) _);
      firsts_shown = λ r lane q b l u. empty_cell (cells_length s) _;
      seconds_shown = λ r lane q b l u. empty_cell (cells_length s) _;
      decisions_shown =
          λ r lane b l.
          get_or-replicate (decisions_length s) (decision_index s (suc r) lane) undecided 0 (decision_fits s (suc r) lane (omega arith) b l);
      logs_shown = λ q lane u l. empty_log s small q lane;
      racks_shown = λ q u. rw (rack_at_is s small q u) (rack_view s small q);
    }
