-- A lane settled in its own part of the log table, said of the whole table.
use mathlib.Core.Path.{◌≡◌, refl, sym, ap, ◌∙◌}
use mathlib.Core.List.{List, ◌++◌}
use mathlib.Core.Bool.{Bool, true, false}
use Prim.Native.Nat.{ℕ, zero, suc, ◌+◌, ◌*◌, ◌≤◌, ◌<◌}
use native.Mathlib.Omega.{arith}
use native.Mathlib.Nat.{add-zero, add_assoc, mul-add}
use lib.ListN.{length, get_or, take, drop, take-append-drop, length-drop, get_or-append}
use lib.Seq.{take_at, drop_at, length-take-le, get_or-append-add, get_or-drop}
use Rattle.model.specs.declared.Size.{Size}
use Rattle.model.specs.declared.Cue.{Cue}
use Rattle.model.specs.declared.Value.{Value}
use Rattle.model.specs.declared.Cell.{Cell}
use Rattle.model.specs.declared.Rack.{Rack}
use Rattle.model.specs.Form.{record_at, stored}
use Rattle.model.specs.Record.{Logs, entry_at}
use Rattle.model.specs.InUse.{logs_of}
use Rattle.model.specs.Table.{log_start, log_length, length_from, result_at, news_at}
use Rattle.model.specs.Settle.{Log, log_of, part_records, part_log, append_missed, append_committed, settled_log, own_cues, last_entry, state_of, settled_rack, Settled, settle_part, PartLent, lane_log, settle_lane}
use Rattle.model.proofs.Record.{ends, Room, length_store, store_part}
use Rattle.model.proofs.Length.{length_same}
use Rattle.model.proofs.Sizes.{sizes}
use Rattle.settle.specs.Lent.{Lent}
use Rattle.settle.proofs.Lane.{is_missed, is_due, append_if, missed_room, due_room, settled_length_is, lane_room}

-- a log in the middle one of three lists, in all three
abbrev around : List ℕ → List ℕ → ℕ → Log → Log
around a b f log =
    record {
      table = record { form = log.table.form; bytes = a ++ (log.table.bytes ++ b) };
      start = f + log.start;
      length = log.length;
    }

-- the first list has f records, and so many records from a log's start on lie within its table
record Within (a : List ℕ) (f : ℕ) (log : Log) (most : ℕ) : Type 0 where
  pub first : length a ≡ log.table.form.width * f
  pub inside : log.table.form.width * (log.start + most) ≤ length log.table.bytes

within_room : {a : List ℕ} {f : ℕ} (log : Log) (most i : ℕ) → Within a f log most → i < most → Room log.table (log.start + i)
within_room log most i w h = omega (arith, ends log.table.form.width (log.start + i) (log.start + most) (omega arith), w.inside)

append_within : {a : List ℕ} {f : ℕ} (due : Bool) (log : Log) (c : Cue) (most : ℕ) → Within a f log most → Within a f (append_if due log c) most
append_within true log c most h =
    record { first = h.first; inside = rw (length_store log.table (log.start + log.length) c) h.inside }
append_within false log c most h = h

settled_within : {a : List ℕ} {f : ℕ} (log : Log) (result : Cell) (news : Value) (most : ℕ)
    → Within a f log most → Within a f (settled_log log result news) most
unfolding append_missed append_committed
settled_within log result news most h =
    let log₁ = append_missed log news in
    append_within (is_due log₁.length result) log₁ result.value.cue most
    (append_within (is_missed log.length news) log news.previous most h)

-- a table as the middle one of three lists, the first of f records
module _ (a b : List ℕ) (f : ℕ) (t : Logs) (first : length a ≡ t.form.width * f) where
  abbrev w : ℕ
  w = t.form.width

  abbrev three : Logs
  three = record { form = t.form; bytes = a ++ (t.bytes ++ b) }

  byte_around : (i : ℕ) → i < length t.bytes → get_or three.bytes (w * f + i) 0 ≡ get_or t.bytes i 0
  byte_around i h = rw (← first) (get_or-append-add a (t.bytes ++ b) i 0 ∙ get_or-append t.bytes b 0 i h)

  entry_around : (i : ℕ) → Room t i → entry_at three (f + i) ≡ entry_at t i
  unfolding record_at
  entry_around i h =
      t.form.read_alike _ _
      (λ j g.
      let d : w * (f + i) + j ≡ w * f + (w * i + j) = omega (arith, mul-add w f i) in
      get_or-drop (w * (f + i)) three.bytes j 0 ∙ rw d (byte_around (w * i + j) (omega arith)) ∙ sym (get_or-drop (w * i) t.bytes j 0))

  store_around : (i : ℕ) (c : Cue) → Room t i → a ++ (stored t i c ++ b) ≡ stored three (f + i) c
  store_around i c h =
      simp (take_at a (t.bytes ++ b) (w * f) first, drop_at a (t.bytes ++ b) (w * f) first, take_at t.bytes b (length t.bytes) refl, drop_at t.bytes b (length t.bytes) refl)
      at (store_part three f i (length t.bytes) c h)

module _ (a b : List ℕ) (f : ℕ) where
  entry_in : (log : Log) (most i : ℕ) → Within a f log most → i < most
      → entry_at (around a b f log).table (f + log.start + i) ≡ entry_at log.table (log.start + i)
  entry_in log most i h g =
      rw (add_assoc f log.start i) (entry_around a b f log.table h.first (log.start + i) (within_room log most i h g))

  -- what is counted in the log
  length_around : (log : Log) (most : ℕ) → Within a f log most
      → length_from (around a b f log).table (f + log.start) most ≡ length_from log.table log.start most
  length_around log most h =
      length_same (around a b f log).table log.table (f + log.start) log.start most (λ m g. entry_in log most m h g)

  own_around : (log : Log) (rack most count : ℕ) → Within a f log most → count ≤ most
      → own_cues (around a b f log).table (f + log.start) rack count ≡ own_cues log.table log.start rack count
  unfolding own_cues
  own_around log rack most zero h g = refl
  own_around log rack most (suc i) h g = rw (entry_in log most i h (omega arith), own_around log rack most i h (omega arith))

  last_around : (log : Log) (most count : ℕ) → Within a f log most → count ≤ most
      → last_entry (around a b f log).table (f + log.start) count ≡ last_entry log.table log.start count
  unfolding last_entry
  last_around log most zero h g = refl
  last_around log most (suc i) h g = entry_in log most i h (omega arith)

  state_around : (rack : ℕ) (log : Log) (most : ℕ) → Within a f log most → log.length ≤ most → state_of rack (around a b f log) ≡ state_of rack log
  state_around rack log most h g =
      λ t.
      record {
        length = log.length;
        own = own_around log rack most log.length h g t;
        last = last_around log most log.length h g t;
      }

  -- a cue appended to the log is appended in all three
  append_around : (due : Bool) (log : Log) (c : Cue) (most : ℕ) → Within a f log most → (due ≡ true → log.length < most)
      → around a b f (append_if due log c) ≡ append_if due (around a b f log) c
  append_around true log c most w h =
      let e = store_around a b f log.table w.first (log.start + log.length) c (within_room log most log.length w (h refl)) in
      λ t.
      record {
        table =
            record {
              form = log.table.form;
              bytes = (e ∙ ap (λ (i : ℕ). stored (around a b f log).table i c) (sym (add_assoc f log.start log.length))) t;
            };
        start = f + log.start;
        length = suc log.length;
      }
  append_around false log c most w h = refl

  -- rules 1 and 2
  settled_around : (log : Log) (result : Cell) (news : Value) (most : ℕ) → Within a f log most → (settled_log log result news).length ≤ most
      → around a b f (settled_log log result news) ≡ settled_log (around a b f log) result news
  unfolding append_missed append_committed
  settled_around log result news most h short =
      let missed = is_missed log.length news in
      let log₁ = append_missed log news in
      let due = is_due log₁.length result in
      append_around due log₁ result.value.cue most (append_within missed log news.previous most h) (due_room log result news most short)
      ∙ ap (λ (l : Log). append_committed l result)
      (append_around missed log news.previous most h (missed_room log result news most short))

-- the k bytes from a on are a lane's log, which has room for what settling appends
module _ (s : Size) (rack : ℕ) (logs : List ℕ) (r : Rack) (lane a k : ℕ) (at : a ≡ 2 * log_start s rack lane) (all : k ≡ 2 * s.rounds)
    (lent : Lent s logs rack) (there : lane < s.lanes) (short : (lane_log s rack (logs_of logs) r lane).length ≤ s.rounds) where
  abbrev part : Logs
  part = logs_of (take k (drop a logs))

  abbrev rest : List ℕ
  rest = drop k (drop a logs)

  first : length (take a logs) ≡ 2 * log_start s rack lane
  first = let w = (lane_room s logs rack r lane refl lent there).inside in length-take-le a logs (omega arith) ∙ at

  part_length : length part.bytes ≡ 2 * s.rounds
  part_length =
      let w = (lane_room s logs rack r lane refl lent there).inside in
      length-take-le k (drop a logs) (rw length-drop (omega arith)) ∙ all

  whole : take a logs ++ (part.bytes ++ rest) ≡ logs
  whole = rw (take-append-drop k (drop a logs), take-append-drop a logs)

  half : part_records part ≡ s.rounds
  half = omega (arith, part_length)

  within : Within (take a logs) (log_start s rack lane) (part_log part) s.rounds
  within = record { first = first; inside = omega (arith, part_length) }

  same_length : (part_log part).length ≡ log_length s (logs_of logs) rack lane
  same_length =
      let e = length_around (take a logs) rest (log_start s rack lane) (part_log part) s.rounds within in
      rw half (sym (rw (whole, add-zero) at e))

  same_log : around (take a logs) rest (log_start s rack lane) (part_log part) ≡ log_of s (logs_of logs) rack lane
  same_log = λ t. record { table = logs_of (whole t); start = add-zero (log_start s rack lane) t; length = same_length t }

  pub part_lent : PartLent part r lane
  unfolding lane_log
  part_lent =
      let z = sizes s lent.sizes in
      record {
        lane_there = omega arith;
        few = omega (arith, part_length);
        room =
            rw (
              settled_length_is (part_log part) (result_at r lane) (news_at r lane),
              same_length,
              ← settled_length_is (log_of s (logs_of logs) rack lane) (result_at r lane) (news_at r lane),
              half,
            ) short;
      }

  -- what settling leaves in it is what it leaves in the whole table
  pub part_settled : {bytes : List ℕ} {q : Rack} → ◌≡◌ {A = Settled} (record { logs = logs_of bytes; rack = q }) (settle_part part r lane rack)
      → ◌≡◌ {A = Settled} (record { logs = logs_of (take a logs ++ (bytes ++ rest)); rack = q }) (settle_lane s rack (logs_of logs) r lane)
  unfolding settle_part settle_lane lane_log
  part_settled e =
      let result = result_at r lane in
      let news = news_at r lane in
      let log = settled_log (part_log part) result news in
      let fits : log.length ≤ s.rounds = omega (arith, part_length, part_lent.room) in
      let state = state_around (take a logs) rest (log_start s rack lane) rack log s.rounds (settled_within (part_log part) result news s.rounds within) fits in
      ap (λ (x : Settled). record { logs = record { form = x.logs.form; bytes = take a logs ++ (x.logs.bytes ++ rest) }; rack = x.rack }) e
      ∙ (λ t. record { logs = (around (take a logs) rest (log_start s rack lane) log).table; rack = settled_rack r lane rack (sym state t) })
      ∙ ap (λ (l : Log). record { logs = l.table; rack = settled_rack r lane rack (state_of rack l) })
      (settled_around (take a logs) rest (log_start s rack lane) (part_log part) result news s.rounds within fits
      ∙ ap (λ (l : Log). settled_log l result news) same_log)
