-- Settling, one lane after the other: the log table stays sound, and each settled lane holds a value at its log's length.
use mathlib.Core.Path.{◌≡◌, refl, sym, ap, ◌∙◌}
use mathlib.Core.Logic.{◌⊎◌, inl, inr, ◌≢◌}
use mathlib.Core.List.{List}
use mathlib.Core.Bool.{true, false}
use Prim.Native.Nat.{ℕ, zero, suc, ◌+◌, ◌*◌, ◌≤◌, ◌<◌}
use native.Mathlib.Omega.{arith}
use borrow.Author.Tests.{leb-true, not-false}
use lib.Dec.{leb}
use lib.ListN.{length, get_or, set, length-set}
use lib.Seq.{get_or-set_same, get_or-set_other}
use Rattle.laws.specs.Below.{below}
use Rattle.laws.proofs.Cases.{either, eq_or_ne}
use Rattle.laws.proofs.Below.{below_at}
use Rattle.model.specs.declared.Size.{Size}
use Rattle.model.specs.declared.Value.{Value}
use Rattle.model.specs.declared.Cell.{Cell}
use Rattle.model.specs.declared.Rack.{Rack}
use Rattle.model.specs.declared.Cue.{Cue}
use Rattle.model.specs.Size.{log_records}
use Rattle.model.specs.Form.{Form, length_of}
use Rattle.model.specs.Record.{no_cue, no_value, no_cell, Logs}
use Rattle.model.specs.Table.{log_start, log_length, held_at, result_at, news_at, second_cells}
use Rattle.model.specs.Settle.{Log, log_of, settled_log, state_of, next_held, settled_rack, Settled, lane_log, settle_lane, settle_lanes, too_long}
use Rattle.model.specs.Sound.{sound_logs, sound_value}
use Rattle.model.proofs.Record.{room}
use Rattle.model.proofs.Table.{entry_fits, entry_rack, entry_lane}
use Rattle.steady.proofs.Facts.{Done, Held}
use Rattle.steady.proofs.Cells.{full_value}
use Rattle.steady.proofs.Logs.{LogSound, started, length_is, logs_facts, facts_logs}
use Rattle.steady.proofs.Append.{Rooms, Grown, same_length, settled_sound, settled_grown}
use Rattle.steady.proofs.Next.{next_sound, next_place}

module _ (s : Size) (rack : ℕ) (there : rack < s.racks) (logs : Logs) (r : Rack) where
  -- the log table and the rack when the first lanes are settled
  pub record Settling (n : ℕ) (after : Settled) : Type 0 where
    pub sized : length after.logs.bytes ≡ length_of after.logs (log_records s)
    pub logs_sound : sound_logs s after.logs ≡ true
    pub others : (q lane : ℕ) → q < s.racks → lane < s.lanes → (q ≢ rack) ⊎ (n ≤ lane)
        → log_length s after.logs q lane ≡ log_length s logs q lane
    pub held : (lane : ℕ) → lane < n → Held s after.logs rack after.rack lane
    pub left : (lane : ℕ) → n ≤ lane → held_at after.rack lane ≡ held_at r lane
    pub held_length : length after.rack.held ≡ 4
    pub round : after.rack.round ≡ r.round
    pub firsts : after.rack.firsts ≡ r.firsts
    pub seconds : after.rack.seconds ≡ r.seconds
    pub results : after.rack.results ≡ r.results
    pub news : after.rack.news ≡ r.news

  -- settling makes no log longer than R
  within_rounds : too_long s rack logs r ≡ false → (lane : ℕ) → lane < s.lanes → (lane_log s rack logs r lane).length ≤ s.rounds
  unfolding too_long
  within_rounds e lane h =
      leb-true (lane_log s rack logs r lane).length s.rounds
      (below_at s.lanes (λ lane. leb (lane_log s rack logs r lane).length s.rounds) (not-false (below s.lanes _) e) lane h)

  -- one lane more
  module _ (four : s.lanes ≤ 4) (fits : too_long s rack logs r ≡ false)
      (done : (lane : ℕ) → lane < s.lanes → Done s (result_at r lane) (news_at r lane))
      (n : ℕ) (h : n < s.lanes) (after : Settled) (so_far : Settling n after) where
    abbrev result : Cell
    result = result_at after.rack n

    abbrev news_now : Value
    news_now = news_at after.rack n

    abbrev before : Log
    before = log_of s after.logs rack n

    abbrev now : Log
    now = settled_log before result news_now

    done_now : Done s result news_now
    done_now = rw (so_far.results, so_far.news) (done n h)

    short : now.length ≤ s.rounds
    unfolding lane_log
    short =
        let w = within_rounds fits n h in
        let e = same_length s before (log_of s logs rack n) result news_now (so_far.others rack n there h (inr (omega arith))) in
        let f : (settled_log (log_of s logs rack n) result news_now).length ≡ (settled_log (log_of s logs rack n) (result_at r n) (news_at r n)).length =
        ap (λ (c : Cell). (settled_log (log_of s logs rack n) c news_now).length) (ap (λ (l : List Cell). get_or l n no_cell) so_far.results)
        ∙ ap (λ (v : Value). (settled_log (log_of s logs rack n) (result_at r n) v).length) (ap (λ (l : List Value). get_or l n no_value) so_far.news)
        in
        omega arith

    rooms : Rooms s before
    rooms i g = room after.logs (log_records s) (log_start s rack n + i) so_far.sized (entry_fits s rack n i there h g)

    result_fine : sound_value s result.value ≡ true
    result_fine = full_value s second_cells result done_now.result_sound done_now.full

    now_sound : LogSound s now
    now_sound = settled_sound s before result news_now (logs_facts s after.logs so_far.logs_sound rack n there h) rooms result_fine done_now.news_sound short

    grown : Grown s before now
    grown = settled_grown s before result news_now (logs_facts s after.logs so_far.logs_sound rack n there h) rooms result_fine done_now.news_sound short

    -- the log at work
    here : LogSound s (record { table = now.table; start = log_start s rack n; length = now.length })
    here = started s now (log_start s rack n) grown.start now_sound

    -- every other log
    elsewhere : (q lane : ℕ) → q < s.racks → lane < s.lanes → (q ≢ rack) ⊎ (lane ≢ n)
        → LogSound s (record { table = now.table; start = log_start s q lane; length = log_length s after.logs q lane })
    elsewhere q lane a b d =
        let ok = logs_facts s after.logs so_far.logs_sound q lane a b in
        let apart : (i : ℕ) → i < s.rounds → (j : ℕ) → j < s.rounds → log_start s q lane + i ≢ log_start s rack n + j =
        λ i x j y e. either d
        (λ f. f (entry_rack s q lane i rack n j b x h y e))
        (λ f. f (entry_lane s q lane i rack n j b x h y e))
        in
        let short = ok.short in
        record {
          short = short;
          used = λ i g. let x : i < s.rounds = omega arith in rw (grown.outside (log_start s q lane + i) (apart i x)) (ok.used i g);
          rest = λ i g x. grown.outside (log_start s q lane + i) (apart i x) ∙ ok.rest i g x;
          clean = λ i x. grown.outside_spare (log_start s q lane + i) (apart i x) ∙ ok.clean i x;
        }

    here_length : log_length s now.table rack n ≡ now.length
    here_length = length_is s (record { table = now.table; start = log_start s rack n; length = now.length }) here

    else_length : (q lane : ℕ) → q < s.racks → lane < s.lanes → (q ≢ rack) ⊎ (lane ≢ n)
        → log_length s now.table q lane ≡ log_length s after.logs q lane
    else_length q lane a b d =
        length_is s (record { table = now.table; start = log_start s q lane; length = log_length s after.logs q lane }) (elsewhere q lane a b d)

    now_logs : sound_logs s now.table ≡ true
    now_logs =
        facts_logs s now.table
        (λ q lane a b. either (eq_or_ne q rack)
        (λ (e : q ≡ rack). either (eq_or_ne lane n)
        (λ (f : lane ≡ n). (now.length, rw (e, f) here))
        (λ (d : lane ≢ n). (log_length s after.logs q lane, elsewhere q lane a b (inr d))))
        (λ (d : q ≢ rack). (log_length s after.logs q lane, elsewhere q lane a b (inl d))))

    abbrev held_next : Value
    held_next = next_held rack (state_of rack now) result

    held_here : Held s now.table rack (settled_rack after.rack n rack (state_of rack now)) n
    unfolding settled_rack
    held_here =
        let e : get_or (set after.rack.held n held_next) n no_value ≡ held_next =
        get_or-set_same after.rack.held n held_next no_value (let l = so_far.held_length in omega arith)
        in
        record {
          held_sound = rw e (next_sound s rack there now now_sound result result_fine);
          held_place = rw e (next_place s rack there now now_sound result ∙ sym here_length);
        }

    held_else : (lane : ℕ) → lane < n → Held s now.table rack (settled_rack after.rack n rack (state_of rack now)) lane
    unfolding settled_rack
    held_else lane g =
        let old = so_far.held lane g in
        let d : lane ≢ n = omega arith in
        let e : get_or (set after.rack.held n held_next) lane no_value ≡ held_at after.rack lane =
        get_or-set_other after.rack.held n lane held_next no_value d
        in
        record {
          held_sound = rw e old.held_sound;
          held_place = rw e (old.held_place ∙ sym (else_length rack lane there (omega arith) (inr d)));
        }

    settling_on : Settling (suc n) (settle_lane s rack after.logs after.rack n)
    unfolding settle_lane lane_log settled_rack
    settling_on =
        record {
          sized = grown.sized ∙ so_far.sized ∙ ap (λ (f : Form Cue no_cue). f.width * log_records s) (sym grown.form);
          logs_sound = now_logs;
          others =
              λ q lane a b d.
              else_length q lane a b (either d (λ x. inl x) (λ x. inr (λ e. omega arith)))
              ∙ so_far.others q lane a b (either d (λ x. inl x) (λ x. inr (omega arith)));
          held =
              λ lane g.
              either (eq_or_ne lane n)
              (λ (e : lane ≡ n). rw e held_here)
              (λ (d : lane ≢ n). held_else lane (omega arith));
          left =
              λ lane g.
              get_or-set_other after.rack.held n lane held_next no_value (λ e. omega arith)
              ∙ so_far.left lane (omega arith);
          held_length = length-set after.rack.held n held_next ∙ so_far.held_length;
          round = so_far.round;
          firsts = so_far.firsts;
          seconds = so_far.seconds;
          results = so_far.results;
          news = so_far.news;
        }

  pub settling : s.lanes ≤ 4 → too_long s rack logs r ≡ false → ((lane : ℕ) → lane < s.lanes → Done s (result_at r lane) (news_at r lane))
      → length logs.bytes ≡ length_of logs (log_records s) → sound_logs s logs ≡ true → length r.held ≡ 4
      → (n : ℕ) → n ≤ s.lanes → Settling n (settle_lanes s rack logs r n)
  unfolding settle_lanes
  settling four fits done long ok shape zero h =
      record {
        sized = long;
        logs_sound = ok;
        others = λ q lane a b d. refl;
        held = λ lane g. absurd (omega arith);
        left = λ lane g. refl;
        held_length = shape;
        round = refl;
        firsts = refl;
        seconds = refl;
        results = refl;
        news = refl;
      }
  settling four fits done long ok shape (suc n) h =
      settling_on four fits done n h (settle_lanes s rack logs r n) (settling four fits done long ok shape n (omega arith))
