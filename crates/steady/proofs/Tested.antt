-- The tests of a card give its named facts, and the facts give the tests.
use mathlib.Core.Path.{◌≡◌, ap, ◌∙◌}
use mathlib.Core.Logic.{inl, inr, ◌≢◌}
use mathlib.Core.Bool.{true, false, cond, not, ◌&&◌, ◌||◌}
use Prim.Native.Nat.{ℕ, ◌+◌, ◌≤◌, ◌<◌}
use native.Mathlib.Omega.{arith}
use borrow.Author.Tests.{ltb-true, ltb-false, leb-true, leb-false, eqb-true, eqb-false, lt-ltb, le-ltb, le-leb, lt-leb, eq-eqb, ne_eqb, not-true}
use lib.Dec.{eqb, ltb, leb}
use Rattle.laws.specs.Below.{below}
use Rattle.laws.proofs.Cases.{either, and_true, true_and, or_true, true_or, or_right}
use Rattle.laws.proofs.Below.{below_at, all_below}
use Rattle.model.specs.declared.Size.{Size}
use Rattle.model.specs.declared.Value.{Value}
use Rattle.model.specs.declared.Cell.{Cell}
use Rattle.model.specs.declared.Rack.{Rack}
use Rattle.model.specs.Size.{within, block_steps, round_steps}
use Rattle.model.specs.Record.{no_value, no_cell, is_empty, same_value, same_cell, Cells, Logs}
use Rattle.model.specs.Table.{Tables, Card, offers, first_cells, second_cells, log_length, undecided, no_lane, decision_at, rack_at, held_at, result_at, news_at, first_at, second_at, cell_now}
use Rattle.model.specs.Kind.{lane_at, steps_in, firsts_read, seconds_read}
use Rattle.model.specs.Sound.{sound_cell, sound_value, sound_clock, sound_first, sound_gathered, sound_choice, sound_read_back, sound_written, sound_outcome, sound_held}
use Rattle.model.specs.Sound.{sound_lane, sound_rack, sound_state, sound_racks, sound_tables, sound_cells, sound_decisions, sound, unused_lane, unused_rack}
use Rattle.model.proofs.Same.{value_same, same_value_is, cell_same, same_cell_is}
use Rattle.steady.proofs.Tests.{or_else, else_or, cond_then, cond_else, both_cond, false_not}
use Rattle.steady.proofs.Facts.{Clock, First, Gathered, Chosen, ReadBack, Written, Outcome, Held, Unused, RackSound, CardSound}

module _ (s : Size) where
  clock_facts : (r : Rack) → sound_clock s r ≡ true → Clock s r.round r.step
  unfolding sound_clock
  clock_facts r e =
      let p = and_true (within 1 (s.rounds + 1) r.round) _ e in
      let q = and_true (leb 1 r.round) _ p.0 in
      let u = and_true (leb r.round s.rounds || eqb r.step 0) _ p.1 in
      record {
        round_low = leb-true 1 r.round q.0;
        round_high = leb-true r.round (s.rounds + 1) q.1;
        resting =
            either (or_true (leb r.round s.rounds) (eqb r.step 0) u.0)
            (λ t. inl (leb-true r.round s.rounds t))
            (λ t. inr (eqb-true r.step 0 t));
        step_high = ltb-true r.step (round_steps s) u.1;
      }

  facts_clock : (r : Rack) → Clock s r.round r.step → sound_clock s r ≡ true
  unfolding sound_clock
  facts_clock r c =
      true_and (true_and (le-leb 1 r.round c.round_low) (le-leb r.round (s.rounds + 1) c.round_high))
      (true_and
      (either c.resting
      (λ h. true_or (eqb r.step 0) (le-leb r.round s.rounds h))
      (λ h. or_right (leb r.round s.rounds) (eq-eqb r.step 0 h)))
      (lt-ltb r.step (round_steps s) c.step_high))

  first_facts : (r : Rack) → sound_first s r ≡ true → First s r.step r.first
  unfolding sound_first
  first_facts r e =
      record {
        none_yet = λ h. eqb-true r.first no_lane (cond_then (ltb r.step 2) (eqb r.first no_lane) (ltb r.first s.lanes) e (lt-ltb r.step 2 h));
        named = λ h. ltb-true r.first s.lanes (cond_else (ltb r.step 2) (eqb r.first no_lane) (ltb r.first s.lanes) e (le-ltb r.step 2 h));
      }

  facts_first : (r : Rack) → First s r.step r.first → sound_first s r ≡ true
  unfolding sound_first
  facts_first r f =
      both_cond (ltb r.step 2)
      (λ t. eq-eqb r.first no_lane (f.none_yet (ltb-true r.step 2 t)))
      (λ t. lt-ltb r.first s.lanes (f.named (ltb-false r.step 2 t)))

  -- a test at each of eight cells, some of them gathered
  eight_facts : (section : ℕ) (cell : ℕ → Cell) (n : ℕ)
      → below 8 (λ i. cond (ltb i n) (sound_cell s section (cell i)) (same_cell (cell i) no_cell)) ≡ true
      → ((i : ℕ) → i < 8 → i < n → sound_cell s section (cell i) ≡ true) × ((i : ℕ) → i < 8 → n ≤ i → cell i ≡ no_cell)
  eight_facts section cell n e =
      let at = below_at 8 (λ i. cond (ltb i n) (sound_cell s section (cell i)) (same_cell (cell i) no_cell)) e in (
        λ i h l. cond_then (ltb i n) _ (same_cell (cell i) no_cell) (at i h) (lt-ltb i n l),
        λ i h g. cell_same (cell i) no_cell (cond_else (ltb i n) (sound_cell s section (cell i)) _ (at i h) (le-ltb i n g)),
      )

  facts_eight : (section : ℕ) (cell : ℕ → Cell) (n : ℕ)
      → ((i : ℕ) → i < 8 → i < n → sound_cell s section (cell i) ≡ true) → ((i : ℕ) → i < 8 → n ≤ i → cell i ≡ no_cell)
      → below 8 (λ i. cond (ltb i n) (sound_cell s section (cell i)) (same_cell (cell i) no_cell)) ≡ true
  facts_eight section cell n some none =
      all_below 8 (λ i. cond (ltb i n) (sound_cell s section (cell i)) (same_cell (cell i) no_cell))
      (λ i h. both_cond (ltb i n)
      (λ t. some i h (ltb-true i n t))
      (λ t. ap (λ (c : Cell). same_cell c no_cell) (none i h (ltb-false i n t)) ∙ same_cell_is no_cell))

  gathered_facts : (r : Rack) → sound_gathered s r ≡ true → Gathered s r (firsts_read s r) (seconds_read s r)
  unfolding sound_gathered
  gathered_facts r e =
      let p = and_true (below 8 (λ i. cond (ltb i (firsts_read s r)) (sound_cell s first_cells (first_at r i)) (same_cell (first_at r i) no_cell))) _ e in
      let a = eight_facts first_cells (first_at r) (firsts_read s r) p.0 in
      let b = eight_facts second_cells (second_at r) (seconds_read s r) p.1 in
      record { some_first = a.0; no_first = a.1; some_second = b.0; no_second = b.1 }

  facts_gathered : (r : Rack) → Gathered s r (firsts_read s r) (seconds_read s r) → sound_gathered s r ≡ true
  unfolding sound_gathered
  facts_gathered r g =
      true_and
      (facts_eight first_cells (first_at r) (firsts_read s r) g.some_first g.no_first)
      (facts_eight second_cells (second_at r) (seconds_read s r) g.some_second g.no_second)

  choice_facts : (t : Tables) (r : Rack) → sound_choice s t.cells t.decisions r ≡ true → 2 ≤ r.step → Chosen s t r
  unfolding sound_choice
  choice_facts t r e h =
      let source = decision_at s t.decisions r.round r.first in
      let p = and_true (not (eqb source undecided)) _ (or_else (ltb r.step 2) _ e (le-ltb r.step 2 h)) in
      record {
        decided = eqb-false source undecided (not-true (eqb source undecided) p.0);
        offer = not-true (is_empty (cell_now s t.cells r offers r.first source)) p.1;
      }

  facts_choice : (t : Tables) (r : Rack) → (2 ≤ r.step → Chosen s t r) → sound_choice s t.cells t.decisions r ≡ true
  unfolding sound_choice
  facts_choice t r f =
      else_or (ltb r.step 2)
      (λ e. let c = f (ltb-false r.step 2 e) in true_and (false_not (ne_eqb _ undecided c.decided)) (false_not c.offer))

  back_facts : (cells : Cells) (rack : ℕ) (r : Rack) → sound_read_back s cells rack r ≡ true
      → ReadBack s cells rack r (firsts_read s r) (seconds_read s r) (lane_at s r)
  unfolding sound_read_back
  back_facts cells rack r e =
      let p = and_true (leb (firsts_read s r) rack || same_cell (first_at r rack) (cell_now s cells r first_cells (lane_at s r) rack)) _ e in
      record {
        first_back = λ h. cell_same _ _ (or_else (leb (firsts_read s r) rack) _ p.0 (lt-leb (firsts_read s r) rack h));
        second_back = λ h. cell_same _ _ (or_else (leb (seconds_read s r) rack) _ p.1 (lt-leb (seconds_read s r) rack h));
      }

  facts_back : (cells : Cells) (rack : ℕ) (r : Rack) → ReadBack s cells rack r (firsts_read s r) (seconds_read s r) (lane_at s r)
      → sound_read_back s cells rack r ≡ true
  unfolding sound_read_back
  facts_back cells rack r b =
      let c = cell_now s cells r first_cells (lane_at s r) rack in
      let d = cell_now s cells r second_cells (lane_at s r) rack in
      true_and
      (else_or (leb (firsts_read s r) rack) (λ e. ap (λ (x : Cell). same_cell x c) (b.first_back (leb-false (firsts_read s r) rack e)) ∙ same_cell_is c))
      (else_or (leb (seconds_read s r) rack) (λ e. ap (λ (x : Cell). same_cell x d) (b.second_back (leb-false (seconds_read s r) rack e)) ∙ same_cell_is d))

  -- a cell that is full from a certain step on
  full_from : (low n : ℕ) (c : Cell) → ltb n low || not (is_empty c) ≡ true → low ≤ n → is_empty c ≡ false
  full_from low n c e h = not-true (is_empty c) (or_else (ltb n low) (not (is_empty c)) e (le-ltb n low h))

  from_full : (low n : ℕ) (c : Cell) → (low ≤ n → is_empty c ≡ false) → ltb n low || not (is_empty c) ≡ true
  from_full low n c f = else_or (ltb n low) (λ e. false_not (f (ltb-false n low e)))

  written_facts : (cells : Cells) (rack : ℕ) (r : Rack) (lane : ℕ) → sound_written s cells rack r lane ≡ true
      → Written s cells rack r lane (steps_in s r lane)
  unfolding sound_written
  written_facts cells rack r lane e =
      let p = and_true (ltb r.step 1 || not (is_empty (cell_now s cells r offers lane rack))) _ e in
      let q = and_true (ltb (steps_in s r lane) 1 || not (is_empty (cell_now s cells r first_cells lane rack))) _ p.1 in
      record {
        offer = full_from 1 r.step (cell_now s cells r offers lane rack) p.0;
        first = full_from 1 (steps_in s r lane) (cell_now s cells r first_cells lane rack) q.0;
        second = full_from (s.racks + 2) (steps_in s r lane) (cell_now s cells r second_cells lane rack) q.1;
      }

  facts_written : (cells : Cells) (rack : ℕ) (r : Rack) (lane : ℕ) → Written s cells rack r lane (steps_in s r lane)
      → sound_written s cells rack r lane ≡ true
  unfolding sound_written
  facts_written cells rack r lane w =
      true_and (from_full 1 r.step (cell_now s cells r offers lane rack) w.offer)
      (true_and
      (from_full 1 (steps_in s r lane) (cell_now s cells r first_cells lane rack) w.first)
      (from_full (s.racks + 2) (steps_in s r lane) (cell_now s cells r second_cells lane rack) w.second))

  outcome_facts : (r : Rack) (lane : ℕ) → sound_outcome s r lane ≡ true → Outcome s r lane (steps_in s r lane)
  unfolding sound_outcome
  outcome_facts r lane e =
      let c = result_at r lane in
      let v = news_at r lane in
      let full = not (is_empty c) && (sound_cell s second_cells c && sound_value s v) in
      let none = same_cell c no_cell && same_value v no_value in
      let test = eqb (steps_in s r lane) (block_steps s) in
      let neither : steps_in s r lane ≢ block_steps s → (same_cell c no_cell ≡ true) × (same_value v no_value ≡ true) =
      λ d. and_true (same_cell c no_cell) (same_value v no_value) (cond_else test full none e (ne_eqb (steps_in s r lane) (block_steps s) d))
      in
      record {
        done =
            λ h.
            let p = and_true (not (is_empty c)) _ (cond_then test full none e (eq-eqb (steps_in s r lane) (block_steps s) h)) in
            let q = and_true (sound_cell s second_cells c) (sound_value s v) p.1 in
            record { full = not-true (is_empty c) p.0; result_sound = q.0; news_sound = q.1 };
        no_result = λ d. cell_same c no_cell (neither d).0;
        no_news = λ d. value_same v no_value (neither d).1;
      }

  facts_outcome : (r : Rack) (lane : ℕ) → Outcome s r lane (steps_in s r lane) → sound_outcome s r lane ≡ true
  unfolding sound_outcome
  facts_outcome r lane o =
      both_cond (eqb (steps_in s r lane) (block_steps s))
      (λ e.
      let d = o.done (eqb-true (steps_in s r lane) (block_steps s) e) in
      true_and (false_not d.full) (true_and d.result_sound d.news_sound))
      (λ e.
      let d = eqb-false (steps_in s r lane) (block_steps s) e in
      true_and
      (ap (λ (c : Cell). same_cell c no_cell) (o.no_result d) ∙ same_cell_is no_cell)
      (ap (λ (v : Value). same_value v no_value) (o.no_news d) ∙ same_value_is no_value))

  held_facts : (logs : Logs) (rack : ℕ) (r : Rack) (lane : ℕ) → sound_held s logs rack r lane ≡ true → Held s logs rack r lane
  unfolding sound_held
  held_facts logs rack r lane e =
      let p = and_true (sound_value s (held_at r lane)) _ e in
      record { held_sound = p.0; held_place = eqb-true (held_at r lane).place (log_length s logs rack lane) p.1 }

  facts_held : (logs : Logs) (rack : ℕ) (r : Rack) (lane : ℕ) → Held s logs rack r lane → sound_held s logs rack r lane ≡ true
  unfolding sound_held
  facts_held logs rack r lane h =
      true_and h.held_sound (eq-eqb (held_at r lane).place (log_length s logs rack lane) h.held_place)

  unused_facts : (r : Rack) (lane : ℕ) → unused_lane r lane ≡ true → Unused r lane
  unfolding unused_lane
  unused_facts r lane e =
      let p = and_true (same_value (held_at r lane) no_value) _ e in
      let q = and_true (same_cell (result_at r lane) no_cell) _ p.1 in
      record {
        no_held = value_same (held_at r lane) no_value p.0;
        no_result = cell_same (result_at r lane) no_cell q.0;
        no_news = value_same (news_at r lane) no_value q.1;
      }

  facts_unused : (r : Rack) (lane : ℕ) → Unused r lane → unused_lane r lane ≡ true
  unfolding unused_lane
  facts_unused r lane u =
      true_and (ap (λ (v : Value). same_value v no_value) u.no_held ∙ same_value_is no_value)
      (true_and
      (ap (λ (c : Cell). same_cell c no_cell) u.no_result ∙ same_cell_is no_cell)
      (ap (λ (v : Value). same_value v no_value) u.no_news ∙ same_value_is no_value))

  -- the four lanes
  module _ (t : Tables) (rack : ℕ) (r : Rack) where
    lane_parts : (lane : ℕ) → below 4 (sound_lane s t.cells t.logs rack r) ≡ true → lane < 4 → lane < s.lanes
        → (sound_written s t.cells rack r lane ≡ true) × (sound_outcome s r lane && sound_held s t.logs rack r lane ≡ true)
    unfolding sound_lane
    lane_parts lane e h l =
        and_true (sound_written s t.cells rack r lane) _
        (cond_then (ltb lane s.lanes) (sound_written s t.cells rack r lane && (sound_outcome s r lane && sound_held s t.logs rack r lane)) (unused_lane r lane)
        (below_at 4 (sound_lane s t.cells t.logs rack r) e lane h) (lt-ltb lane s.lanes l))

    lane_unused : (lane : ℕ) → below 4 (sound_lane s t.cells t.logs rack r) ≡ true → lane < 4 → s.lanes ≤ lane → unused_lane r lane ≡ true
    unfolding sound_lane
    lane_unused lane e h g =
        cond_else (ltb lane s.lanes) (sound_written s t.cells rack r lane && (sound_outcome s r lane && sound_held s t.logs rack r lane)) (unused_lane r lane)
        (below_at 4 (sound_lane s t.cells t.logs rack r) e lane h) (le-ltb lane s.lanes g)

    facts_lane : (lane : ℕ)
        → (lane < s.lanes → (sound_written s t.cells rack r lane ≡ true) × (sound_outcome s r lane ≡ true) × (sound_held s t.logs rack r lane ≡ true))
        → (s.lanes ≤ lane → unused_lane r lane ≡ true)
        → sound_lane s t.cells t.logs rack r lane ≡ true
    unfolding sound_lane
    facts_lane lane used unused =
        both_cond (ltb lane s.lanes)
        (λ e. let u = used (ltb-true lane s.lanes e) in true_and u.0 (true_and u.1 u.2))
        (λ e. unused (ltb-false lane s.lanes e))

    module _ (four : s.lanes ≤ 4) where
      pub rack_facts : sound_rack s t rack r ≡ true → RackSound s t rack r
      unfolding sound_rack
      rack_facts e =
          let p = and_true (sound_clock s r) _ e in
          let q = and_true (sound_first s r) _ p.1 in
          let u = and_true (sound_gathered s r) _ q.1 in
          let v = and_true (sound_choice s t.cells t.decisions r) _ u.1 in
          let w = and_true (sound_read_back s t.cells rack r) _ v.1 in
          record {
            clock = clock_facts r p.0;
            first = first_facts r q.0;
            gathered = gathered_facts r u.0;
            choice = choice_facts t r v.0;
            back = back_facts t.cells rack r w.0;
            written = λ lane h. written_facts t.cells rack r lane (lane_parts lane w.1 (omega arith) h).0;
            outcome = λ lane h. outcome_facts r lane (and_true (sound_outcome s r lane) _ (lane_parts lane w.1 (omega arith) h).1).0;
            held = λ lane h. held_facts t.logs rack r lane (and_true (sound_outcome s r lane) _ (lane_parts lane w.1 (omega arith) h).1).1;
            unused = λ lane h g. unused_facts r lane (lane_unused lane w.1 h g);
          }

      pub facts_rack : RackSound s t rack r → sound_rack s t rack r ≡ true
      unfolding sound_rack
      facts_rack f =
          true_and (facts_clock r f.clock)
          (true_and (facts_first r f.first)
          (true_and (facts_gathered r f.gathered)
          (true_and (facts_choice t r f.choice)
          (true_and (facts_back t.cells rack r f.back)
          (all_below 4 (sound_lane s t.cells t.logs rack r) (λ lane h. facts_lane lane
          (λ l. (facts_written t.cells rack r lane (f.written lane l), facts_outcome r lane (f.outcome lane l), facts_held t.logs rack r lane (f.held lane l)))
          (λ g. facts_unused r lane (f.unused lane h g))))))))

  module _ (card : Card) (four : s.lanes ≤ 4) where
    state_at : sound s card ≡ true → (rack : ℕ) → rack < 8 → sound_state s card.tables rack (rack_at card.racks rack) ≡ true
    unfolding sound sound_racks
    state_at e = below_at 8 _ (and_true (sound_tables s card.tables) _ e).1

    pub card_facts : sound s card ≡ true → CardSound s card
    unfolding sound sound_tables sound_state
    card_facts e =
        let p = and_true (sound_tables s card.tables) _ e in
        let q = and_true (sound_cells s card.tables.cells) _ p.0 in
        let u = and_true (sound_decisions s card.tables.decisions) _ q.1 in
        record {
          cells = q.0;
          decisions = u.0;
          logs = u.1;
          used =
              λ rack h l.
              let r = rack_at card.racks rack in
              rack_facts card.tables rack r four
              (cond_then (ltb rack s.racks) (sound_rack s card.tables rack r) (unused_rack r) (state_at e rack h) (lt-ltb rack s.racks l));
          unused =
              λ rack h g.
              let r = rack_at card.racks rack in
              cond_else (ltb rack s.racks) (sound_rack s card.tables rack r) (unused_rack r) (state_at e rack h) (le-ltb rack s.racks g);
        }

    pub facts_card : CardSound s card → sound s card ≡ true
    unfolding sound sound_tables sound_racks sound_state
    facts_card f =
        true_and (true_and f.cells (true_and f.decisions f.logs))
        (all_below 8 _
        (λ rack h. both_cond (ltb rack s.racks)
        (λ e. facts_rack card.tables rack (rack_at card.racks rack) four (f.used rack h (ltb-true rack s.racks e)))
        (λ e. f.unused rack h (ltb-false rack s.racks e))))
