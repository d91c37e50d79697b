-- A fresh card has exact lengths, is sound, and has the shape that the types say.
use mathlib.Core.Path.{◌≡◌, refl, sym, ap, ◌∙◌}
use mathlib.Core.Logic.{inr}
use mathlib.Core.List.{List}
use mathlib.Core.Bool.{true, cond}
use Prim.Native.Nat.{ℕ, ◌+◌, ◌*◌, ◌≤◌, ◌<◌}
use native.Mathlib.Omega.{arith}
use borrow.Author.Tests.{lt-ltb, le-ltb, le-leb}
use lib.Dec.{ltb}
use lib.ListN.{get_or, drop, replicate, length-replicate, get_or-replicate}
use lib.Seq.{get_or-drop}
use Rattle.laws.proofs.Cases.{either, bool, true_and}
use Rattle.laws.proofs.Below.{all_below}
use Rattle.model.specs.declared.Size.{Size}
use Rattle.model.specs.declared.Value.{Value}
use Rattle.model.specs.declared.Cell.{Cell}
use Rattle.model.specs.Size.{records, most_rounds, size_fits, cell_records, log_records, decisions_length}
use Rattle.model.specs.Form.{Form, record_at, spare_at}
use Rattle.model.specs.Record.{no_cue, no_value, no_cell, same_cue, same_value, same_cell}
use Rattle.model.specs.Table.{offers, first_cells, second_cells, log_start, log_length, no_rack, undecided, rack_at, held_at}
use Rattle.model.specs.InUse.{cell_form, entry_form, cells_of, logs_of}
use Rattle.model.specs.Shape.{Shape}
use Rattle.model.specs.Sound.{sound_cue, sound_value, sound_cell, sound_record, sound_section, sound_cells, sound_decisions, sound, unused_lane, unused_rack}
use Rattle.model.specs.Turn.{fits}
use Rattle.model.specs.Fresh.{own_first, fresh_rack, zero_rack, fresh_tables, fresh_racks, fresh_card}
use Rattle.model.proofs.Same.{same_cue_is, same_value_is}
use Rattle.model.proofs.Record.{Neat}
use Rattle.model.proofs.Place.{block_long}
use Rattle.steady.proofs.Visits.{none_taken, no_firsts, no_seconds}
use Rattle.model.proofs.Sizes.{Sizes, sizes, exact_fits}
use Rattle.steady.proofs.Facts.{RackSound, CardSound}
use Rattle.steady.proofs.Tested.{facts_card}
use Rattle.steady.proofs.Logs.{LogSound, length_is, facts_logs}
use Rattle.steady.proofs.Leading.{round_long}
use Rattle.steady.proofs.Elements.{get_d_same, length_table, get_d_table}

-- zeros read as empty records
zeros : (n k j : ℕ) → ◌≡◌ {A = ℕ} (get_or (drop k (replicate n 0)) j 0) 0
zeros n k j = get_or-drop k (replicate n 0) j 0 ∙ get_d_same n (k + j) 0

module _ {A : Type 0} {none : A} (f : Form A none) where
  pub empty_at : (n i : ℕ) → record_at (record { form = f; bytes = replicate n 0 }) i ≡ none
  unfolding record_at
  empty_at n i = f.read_alike _ _ (λ j h. zeros n (f.width * i) j) ∙ f.read_none

  pub empty_neat : (n : ℕ) → Neat n (record { form = f; bytes = replicate (f.width * n) 0 })
  empty_neat n =
      record {
        whole = length-replicate (f.width * n) 0;
        neat =
            λ i h j g.
            zeros (f.width * n) (f.width * i) j
            ∙ sym (get_d_same f.width j 0)
            ∙ ap (λ (l : List ℕ). get_or l j 0) (sym f.zeros ∙ ap f.bytes (sym (empty_at (f.width * n) i)));
      }

  pub empty_spare : (n i : ℕ) → spare_at (record { form = f; bytes = replicate n 0 }) i ≡ true
  unfolding spare_at
  empty_spare n i = f.spare_alike _ _ (λ j h. zeros n (f.width * i) j) ∙ f.spare_none

module _ (s : Size) where
  empty_sound : (section : ℕ) → sound_cell s section no_cell ≡ true
  unfolding sound_cell
  empty_sound section = same_value_is no_value

  empty_record : (n section i : ℕ) → sound_record s (cells_of (replicate n 0)) section i ≡ true
  unfolding sound_record record_at spare_at
  empty_record n section i = true_and (ap (λ (c : Cell). sound_cell s section c) (empty_at cell_form n i) ∙ empty_sound section) (empty_spare cell_form n i)

  empty_cells : (n : ℕ) → sound_cells s (cells_of (replicate n 0)) ≡ true
  unfolding sound_cells sound_section
  empty_cells n =
      true_and (all_below (records s) _ (λ i h. empty_record n offers (offers * records s + i)))
      (true_and
      (all_below (records s) _ (λ i h. empty_record n first_cells (first_cells * records s + i)))
      (all_below (records s) _ (λ i h. empty_record n second_cells (second_cells * records s + i))))

  none_decided : sound_decisions s (replicate (decisions_length s) undecided) ≡ true
  unfolding sound_decisions decisions_length
  none_decided =
      all_below (s.rounds * s.lanes) _
      (λ i h. rw (get_or-replicate (s.rounds * s.lanes) i undecided 0 h))

  empty_log : (n start : ℕ) → LogSound s (record { table = logs_of (replicate n 0); start = start; length = 0 })
  empty_log n start =
      record { short = omega arith; used = λ i h. absurd (omega arith); rest = λ i h g. empty_at entry_form n (start + i); clean = λ i h. empty_spare entry_form n (start + i) }

  no_length : (n rack lane : ℕ) → log_length s (logs_of (replicate n 0)) rack lane ≡ 0
  no_length n rack lane =
      length_is s (record { table = logs_of (replicate n 0); start = log_start s rack lane; length = 0 }) (empty_log n (log_start s rack lane))

  -- "holding its own #1 at place 0 in each lane"
  own_first_sound : (rack : ℕ) → rack < s.racks → sound_value s (own_first rack) ≡ true
  unfolding sound_value sound_cue
  own_first_sound rack h =
      true_and (le-leb 0 s.rounds (omega arith))
      (true_and (true_and (lt-ltb rack s.racks h) (le-leb 1 (s.rounds + 1) (omega arith))) (same_cue_is no_cue))

  held_there : (rack lane : ℕ) → lane < 4 → lane < s.lanes → held_at (fresh_rack s rack) lane ≡ own_first rack
  held_there rack lane h g = get_d_table 4 _ lane no_value h ∙ rw (lt-ltb lane s.lanes g)

  held_unused : (rack lane : ℕ) → lane < 4 → s.lanes ≤ lane → held_at (fresh_rack s rack) lane ≡ no_value
  held_unused rack lane h g = get_d_table 4 _ lane no_value h ∙ rw (le-ltb lane s.lanes g)

  rack_fresh : Sizes most_rounds s → (rack : ℕ) → rack < s.racks → RackSound s (fresh_tables s) rack (fresh_rack s rack)
  rack_fresh small rack there =
      let r = fresh_rack s rack in
      let long = round_long s small.lanes_low in
      let block = block_long s in
      let four = small.lanes_high in
      let low = small.rounds_low in
      record {
        clock = record { round_low = omega arith; round_high = omega arith; resting = inr refl; step_high = omega arith };
        first = record { none_yet = λ h. refl; named = λ h. absurd (omega arith) };
        gathered =
            rw (no_firsts s r (omega arith), no_seconds s r (omega arith))
            (record {
              some_first = λ i a b. absurd (omega arith);
              no_first = λ i a b. get_d_same 8 i no_cell;
              some_second = λ i a b. absurd (omega arith);
              no_second = λ i a b. get_d_same 8 i no_cell;
            });
        choice = λ h. absurd (omega arith);
        back =
            rw (no_firsts s r (omega arith), no_seconds s r (omega arith))
            (record { first_back = λ h. absurd (omega arith); second_back = λ h. absurd (omega arith) });
        written =
            λ lane h.
            rw (none_taken s r (omega arith) lane)
            (record { offer = λ l. absurd (omega arith); first = λ l. absurd (omega arith); second = λ l. absurd (omega arith) });
        outcome =
            λ lane h.
            rw (none_taken s r (omega arith) lane)
            (record { done = λ l. absurd (omega arith); no_result = λ l. get_d_same 4 lane no_cell; no_news = λ l. get_d_same 4 lane no_value });
        held =
            λ lane h.
            let e = held_there rack lane (omega arith) h in
            record {
              held_sound = rw e (own_first_sound rack there);
              held_place = ap (λ (v : Value). v.place) e ∙ sym (no_length (entry_form.width * log_records s) rack lane);
            };
        unused =
            λ lane h g.
            record { no_held = held_unused rack lane h g; no_result = get_d_same 4 lane no_cell; no_news = get_d_same 4 lane no_value };
      }

  zero_unused : unused_rack zero_rack ≡ true
  unfolding unused_rack unused_lane same_cell same_value same_cue
  zero_unused = refl

  rack_at_is : (rack : ℕ) → rack < 8 → rack_at (fresh_racks s) rack ≡ cond (ltb rack s.racks) (fresh_rack s rack) zero_rack
  rack_at_is rack h = get_d_table 8 _ rack no_rack h

  pub fresh_fits : size_fits s ≡ true → fits s (fresh_tables s) ≡ true
  fresh_fits e =
      exact_fits s (fresh_tables s)
      (record {
        size = e;
        cells = length-replicate (cell_form.width * cell_records s) 0;
        logs = length-replicate (entry_form.width * log_records s) 0;
        decisions = length-replicate (decisions_length s) undecided;
      })

  fresh_facts : Sizes most_rounds s → CardSound s (record { tables = fresh_tables s; racks = fresh_racks s })
  fresh_facts small =
      record {
        cells = empty_cells (cell_form.width * cell_records s);
        decisions = none_decided;
        logs = facts_logs s (logs_of (replicate (entry_form.width * log_records s) 0)) (λ rack lane h g. (0, empty_log (entry_form.width * log_records s) (log_start s rack lane)));
        used = λ rack h g. rw (rack_at_is rack h, lt-ltb rack s.racks g) (rack_fresh small rack g);
        unused = λ rack h g. rw (rack_at_is rack h, le-ltb rack s.racks g) zero_unused;
      }

  pub fresh_sound : size_fits s ≡ true → sound s (fresh_card s) ≡ true
  unfolding fresh_card
  fresh_sound e =
      let small = sizes s e in
      facts_card s (record { tables = fresh_tables s; racks = fresh_racks s }) small.lanes_high (fresh_facts small)

  pub fresh_shape : Shape (fresh_card s)
  unfolding fresh_card
  fresh_shape =
      record {
        racks = length_table 8 _;
        each =
            λ rack h.
            rw (rack_at_is rack h)
            (either (bool (ltb rack s.racks))
            (λ e. rw e (record { firsts = refl; seconds = refl; held = length_table 4 _; results = refl; news = refl }))
            (λ e. rw e (record { firsts = refl; seconds = refl; held = refl; results = refl; news = refl })));
      }
