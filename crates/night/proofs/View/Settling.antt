-- Settling, one lane after the other: each lane's log and held value become those of the history, and every other log stays.
use mathlib.Core.Path.{◌≡◌, refl, sym, ap, ◌∙◌}
use mathlib.Core.Logic.{◌⊎◌, inl, inr, ◌≢◌}
use mathlib.Core.List.{List}
use mathlib.Core.Bool.{true, false, cond}
use Prim.Native.Nat.{ℕ, zero, suc, ◌+◌, ◌≤◌, ◌<◌}
use native.Mathlib.Omega.{arith}
use native.Mathlib.Nat.{add-zero}
use borrow.Author.Tests.{leb-true, not-false}
use lib.Dec.{leb}
use lib.ListN.{length, get_or}
use lib.Seq.{get_or-set_same, get_or-set_other}
use Rattle.laws.specs.Below.{below}
use Rattle.laws.proofs.Cases.{either, eq_or_ne}
use Rattle.laws.proofs.Below.{below_at}
use Rattle.model.specs.declared.Size.{Size}
use Rattle.model.specs.declared.Value.{Value}
use Rattle.model.specs.declared.Cell.{Cell}
use Rattle.model.specs.declared.Rack as card
use Rattle.model.specs.Size.{log_records}
use Rattle.model.specs.Form.{length_of}
use Rattle.model.specs.Record.{no_cue, no_value, no_cell, same_cue, entry_at, Logs}
use Rattle.model.specs.Table.{log_start, length_from, held_at, result_at, news_at, second_cells}
use Rattle.model.specs.Settle as model
use Rattle.model.specs.Settle.{Settled, settle_lane, settle_lanes, lane_log, settled_rack, too_long}
use Rattle.model.specs.Sound.{sound_logs, sound_value}
use Rattle.model.proofs.Record.{room}
use Rattle.model.proofs.Table.{entry_fits, entry_rack, entry_lane}
use Rattle.steady.proofs.Facts.{Done}
use Rattle.steady.proofs.Cells.{full_value}
use Rattle.steady.proofs.Logs.{LogSound, started, length_is, logs_facts}
use Rattle.steady.proofs.Append.{Rooms, Grown, same_length, settled_sound, settled_grown}
use Rattle.steady.proofs.Settling as steady
use Rattle.protocol.specs.AdoptCommit.{Marked}
use Rattle.protocol.specs.Log.{Log, size}
use Rattle.protocol.specs.Settle.{settled_log, next_held}
use Rattle.night.specs.View.{marked_cell, LogView}
use Rattle.night.proofs.View.Logs.{LogShown, settled_shown, next_shown}

-- a log whose records stay shows what it showed
module _ (s : Size) (logs logs' : Logs) where
  same_from : (most i : ℕ) → ((j : ℕ) → j < most → entry_at logs' (i + j) ≡ entry_at logs (i + j)) → length_from logs' i most ≡ length_from logs i most
  unfolding length_from
  same_from zero i f = refl
  same_from (suc most) i f =
      let here : entry_at logs' i ≡ entry_at logs i = rw add-zero at (f 0 (omega arith)) in
      let later = same_from most (suc i) (λ j g. let e : suc i + j ≡ i + suc j = omega arith in rw e (f (suc j) (omega arith))) in
      λ t. cond (same_cue (here t) no_cue) 0 (suc (later t))

  log_stays : (q lane : ℕ) (log : Log) → size log ≤ s.rounds
      → ((i : ℕ) → i < s.rounds → entry_at logs' (log_start s q lane + i) ≡ entry_at logs (log_start s q lane + i))
      → LogView s logs q lane log → LogView s logs' q lane log
  log_stays q lane log short f v =
      record {
        length = same_from s.rounds (log_start s q lane) f ∙ v.length;
        entries = λ place g. f place (omega arith) ∙ v.entries place g;
      }

module _ (s : Size) (q : ℕ) (there : q < s.racks) (logs : Logs) (r : card.Rack)
    (log_of : ℕ → Log) (result : ℕ → Marked) (news : ℕ → Value)
    (results-shown : (lane : ℕ) → lane < s.lanes → result_at r lane ≡ marked_cell (result lane))
    (news_shown : (lane : ℕ) → lane < s.lanes → news_at r lane ≡ news lane) where
  -- the log table and the rack when the first lanes are settled
  pub record SettlingView (n : ℕ) (after : Settled) : Type 0 where
    pub done : (lane : ℕ) → lane < n → LogView s after.logs q lane (settled_log (log_of lane) (result lane) (news lane))
    pub left : (lane : ℕ) → n ≤ lane → lane < s.lanes → LogView s after.logs q lane (log_of lane)
    pub others : (p lane : ℕ) (log : Log) → p ≢ q → p < s.racks → lane < s.lanes → LogView s logs p lane log → LogView s after.logs p lane log
    pub held : (lane : ℕ) → lane < n → held_at after.rack lane ≡ next_held q (settled_log (log_of lane) (result lane) (news lane)) (result lane)

  within_rounds : too_long s q logs r ≡ false → (lane : ℕ) → lane < s.lanes → (lane_log s q logs r lane).length ≤ s.rounds
  unfolding too_long
  within_rounds e lane h =
      leb-true (lane_log s q logs r lane).length s.rounds
      (below_at s.lanes (λ lane. leb (lane_log s q logs r lane).length s.rounds) (not-false (below s.lanes _) e) lane h)

  -- one lane more
  module _ (fits : too_long s q logs r ≡ false) (finished : (lane : ℕ) → lane < s.lanes → Done s (result_at r lane) (news_at r lane)) (four : s.lanes ≤ 4)
      (n : ℕ) (h : n < s.lanes) (after : Settled) (so_far : steady.Settling s q there logs r n after) (view : SettlingView n after) where
    abbrev before : model.Log
    before = model.log_of s after.logs q n

    abbrev now : model.Log
    now = model.settled_log before (marked_cell (result n)) (news n)

    abbrev log' : Log
    log' = settled_log (log_of n) (result n) (news n)

    result_now : result_at after.rack n ≡ marked_cell (result n)
    result_now = ap (λ (l : List Cell). get_or l n no_cell) so_far.results ∙ results-shown n h

    news_now : news_at after.rack n ≡ news n
    news_now = ap (λ (l : List Value). get_or l n no_value) so_far.news ∙ news_shown n h

    is_now : lane_log s q after.logs after.rack n ≡ now
    unfolding lane_log
    is_now = λ i. model.settled_log before (result_now i) (news_now i)

    short : now.length ≤ s.rounds
    unfolding lane_log
    short =
        let w = within_rounds fits n h in
        let e = same_length s before (model.log_of s logs q n) (marked_cell (result n)) (news n) (so_far.others q n there h (inr (omega arith))) in
        let f : (model.settled_log (model.log_of s logs q n) (marked_cell (result n)) (news n)).length ≡ (lane_log s q logs r n).length =
        λ i. (model.settled_log (model.log_of s logs q n) (sym (results-shown n h) i) (sym (news_shown n h) i)).length
        in
        omega arith

    rooms : Rooms s before
    rooms i g = room after.logs (log_records s) (log_start s q n + i) so_far.sized (entry_fits s q n i there h g)

    sound_before : LogSound s before
    sound_before = logs_facts s after.logs so_far.logs_sound q n there h

    result_fine : sound_value s (marked_cell (result n)).value ≡ true
    result_fine = rw (← results-shown n h) (full_value s second_cells (result_at r n) (finished n h).result_sound (finished n h).full)

    news_fine : sound_value s (news n) ≡ true
    news_fine = rw (← news_shown n h) (finished n h).news_sound

    grown : Grown s before now
    grown = settled_grown s before (marked_cell (result n)) (news n) sound_before rooms result_fine news_fine short

    shown : LogShown now log'
    shown =
        settled_shown s before (log_of n)
        (record { length = (view.left n (omega arith) h).length; entries = (view.left n (omega arith) h).entries })
        rooms (result n) (news n) short

    -- the log at work
    here : LogView s now.table q n log'
    here =
        let fine = settled_sound s before (marked_cell (result n)) (news n) sound_before rooms result_fine news_fine short in
        let same = started s now (log_start s q n) grown.start fine in
        record {
          length = length_is s (record { table = now.table; start = log_start s q n; length = now.length }) same ∙ shown.length;
          entries = λ place g. ap (λ (x : ℕ). entry_at now.table (x + place)) (sym grown.start) ∙ shown.entries place g;
        }

    -- every other log
    elsewhere : (p lane : ℕ) (log : Log) → p < s.racks → lane < s.lanes → (p ≢ q) ⊎ (lane ≢ n) → LogView s after.logs p lane log
        → LogView s now.table p lane log
    elsewhere p lane log a b d v =
        let short = (logs_facts s after.logs so_far.logs_sound p lane a b).short in
        let e = v.length in
        log_stays s after.logs now.table p lane log (omega arith)
        (λ i x. grown.outside (log_start s p lane + i)
        (λ j y f. either d
        (λ g. g (entry_rack s p lane i q n j b x h y f))
        (λ g. g (entry_lane s p lane i q n j b x h y f))))
        v

    abbrev held_next : Value
    held_next = model.next_held q (model.state_of q now) (result_at after.rack n)

    held_now : held_next ≡ next_held q log' (result n)
    held_now =
        ap (λ (c : Cell). model.next_held q (model.state_of q now) c) result_now ∙ next_shown s now log' shown q (result n)

    settled_on : SettlingView (suc n) (settle_lane s q after.logs after.rack n)
    unfolding settle_lane settled_rack
    settled_on =
        rw is_now
        (record {
          done =
              λ lane g.
              either (eq_or_ne lane n)
              (λ (e : lane ≡ n). rw e here)
              (λ (d : lane ≢ n).
              elsewhere q lane (settled_log (log_of lane) (result lane) (news lane)) there (omega arith) (inr d) (view.done lane (omega arith)));
          left = λ lane g l. elsewhere q lane (log_of lane) there l (inr (λ e. omega arith)) (view.left lane (omega arith) l);
          others = λ p lane log d a b v. elsewhere p lane log a b (inl d) (view.others p lane log d a b v);
          held =
              λ lane g.
              either (eq_or_ne lane n)
              (λ (e : lane ≡ n).
              let long = so_far.held_length in
              rw e (get_or-set_same after.rack.held n held_next no_value (omega arith) ∙ held_now))
              (λ (d : lane ≢ n). get_or-set_other after.rack.held n lane held_next no_value d ∙ view.held lane (omega arith));
        })

  pub settling_view : s.lanes ≤ 4 → too_long s q logs r ≡ false → ((lane : ℕ) → lane < s.lanes → Done s (result_at r lane) (news_at r lane))
      → length logs.bytes ≡ length_of logs (log_records s) → sound_logs s logs ≡ true → length r.held ≡ 4
      → ((lane : ℕ) → lane < s.lanes → LogView s logs q lane (log_of lane))
      → (n : ℕ) → n ≤ s.lanes → SettlingView n (settle_lanes s q logs r n)
  unfolding settle_lanes
  settling_view four fits finished long ok shape shown zero h =
      record {
        done = λ lane g. absurd (omega arith);
        left = λ lane g l. shown lane l;
        others = λ p lane log d a b v. v;
        held = λ lane g. absurd (omega arith);
      }
  settling_view four fits finished long ok shape shown (suc n) h =
      settled_on fits finished four n h (settle_lanes s q logs r n)
      (steady.settling s q there logs r four fits finished long ok shape n (omega arith))
      (settling_view four fits finished long ok shape shown n (omega arith))
