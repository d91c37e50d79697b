-- What every store into the log table keeps, a turn keeps.
use mathlib.Core.List.{List}
use mathlib.Core.Bool.{Bool, true, false, cond, ◌&&◌}
use Prim.Native.Nat.{ℕ, zero, suc, ◌+◌}
use lib.Dec.{eqb}
use Rattle.model.specs.declared.Size.{Size}
use Rattle.model.specs.declared.Cue.{Cue}
use Rattle.model.specs.declared.Rack.{Rack}
use Rattle.model.specs.declared.Kind.{Kind}
use Rattle.model.specs.declared.Kind.TheVariants.{Offer, Answer, FirstWrite, FirstRead, SecondWrite, SecondRead}
use Rattle.model.specs.Form.{store}
use Rattle.model.specs.Record.{is_committed, Logs}
use Rattle.model.specs.Table.{Tables, Card, result_at, news_at, rack_at}
use Rattle.model.specs.Kind.{kind_of}
use Rattle.model.specs.Settle.{Log, log_of, append, append_missed, append_committed, lane_log, settle_lane, settle_lanes}
use Rattle.model.specs.Step.{after_second_read, is_last, After, answered, settled, second_read_taken, step_by, stepped, step}
use Rattle.model.specs.Turn.{rack_of, lane_named, source_named, refusal, turned}

module _ (P : Logs → Type 0) (keep : (t : Logs) (i : ℕ) (c : Cue) → P t → P (store t i c)) where
  rule : (b : Bool) (log : Log) (c : Cue) → P log.table → P (cond b (append log c) log).table
  rule true log c p = keep log.table (log.start + log.length) c p
  rule false log c p = p

  module _ (s : Size) (rack : ℕ) where
    lane_keeps : (logs : Logs) (r : Rack) (lane : ℕ) → P logs → P (lane_log s rack logs r lane).table
    unfolding lane_log append_missed append_committed
    lane_keeps logs r lane p =
        let v = news_at r lane in
        let c = result_at r lane in
        let log = log_of s logs rack lane in
        let missed : Log = cond (eqb v.place (suc log.length)) (append log v.previous) log in
        rule (is_committed c && eqb c.value.place missed.length) missed c.value.cue
        (rule (eqb v.place (suc log.length)) log v.previous p)

    settle_keeps : (logs : Logs) (r : Rack) (lanes : ℕ) → P logs → P (settle_lanes s rack logs r lanes).logs
    unfolding settle_lanes settle_lane
    settle_keeps logs r zero p = p
    settle_keeps logs r (suc lane) p =
        lane_keeps (settle_lanes s rack logs r lane).logs (settle_lanes s rack logs r lane).rack lane (settle_keeps logs r lane p)

    module _ (t : Tables) (r : Rack) (p : P t.logs) where
      chosen : (b : Bool) (x y : After) → P x.tables.logs → P y.tables.logs → P (cond b x y).tables.logs
      chosen true x y u v = u
      chosen false x y u v = v

      kind_keeps : (kind : Kind) (m q : ℕ) → P (step_by s t rack r kind m q).tables.logs
      unfolding step_by answered second_read_taken settled
      kind_keeps Offer m q = p
      kind_keeps Answer m q = p
      kind_keeps FirstWrite m q = p
      kind_keeps FirstRead m q = p
      kind_keeps SecondWrite m q = p
      kind_keeps SecondRead m q =
          chosen (is_last s r) (settled s t rack r) (record { tables = t; rack = after_second_read s t.cells rack r })
          (settle_keeps t.logs (after_second_read s t.cells rack r) s.lanes p) p

  pub turn_keeps : (s : Size) (c : Card) (turn : List ℕ) → P c.tables.logs → P (turned s c turn).card.tables.logs
  unfolding turned step stepped
  turn_keeps s c turn p =
      go (eqb (refusal s c turn) 0) (step s c (rack_of turn) (lane_named turn) (source_named turn))
      (kind_keeps s (rack_of turn) c.tables (rack_at c.racks (rack_of turn)) p (kind_of s (rack_at c.racks (rack_of turn)).step) (lane_named turn) (source_named turn))
    where
      go : (b : Bool) (x : Card) → P x.tables.logs → P (cond b x c).tables.logs
      go true x u = u
      go false x u = p
