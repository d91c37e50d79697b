-- The log between rules 1 and 2 and behind them is the definition's, by whether each appended. So each has room for its cue, and rule 3 holds what the log then says.
use mathlib.Core.Path.{◌≡◌, sym, ap, ◌∙◌}
use Prim.Native.Nat.{◌*◌, ◌/◌, ◌≤◌, ◌<◌}
use native.Mathlib.Numerals.{add-one}
use native.Mathlib.Omega.{arith}
use lib.ListN.{length}
use Rattle.model.specs.Table.{result_at, news_at}
use Rattle.model.specs.InUse.{logs_of}
use Rattle.model.specs.Settle.{Log, part_log, append_missed, append_committed, settled_log, state_of, holding, settled_rack}
use Rattle.model.proofs.Length.{length_most, own_most}
use Rattle.model.proofs.Rules.{missed, none_missed, due, none_due, committed_least, own_next_is, hold_result, hold_own, alone, appended, settled_part}
use Rattle.model.proofs.Rack.settle.Goals as goal
use Rattle.model.proofs.Rack.settle.Goals.{Joined-news-length, Joined-is_committed-place, Then-is_committed-place, then-news-length, else-news-length, then-is_committed-place, else-is_committed-place}

-- between the rules
abbrev log₁ : Joined-news-length → Log
log₁ c = alone c.if-news-length.log c.if-news-length.length

log₁_is : (c : Joined-news-length) → log₁ c ≡ append_missed (part_log (logs_of c.args.log.now)) (news_at c.args.self c.args.lane)
log₁_is c =
    let log = alone c.args.log.now c.length_from-length.result in
    let e : log ≡ part_log (logs_of c.args.log.now) = ap (alone c.args.log.now) c.length_from-length.ensures in
    let v = news_at c.args.self c.args.lane in
    rw (← e)
    (elim c.if-news-length.branch [
      | then-news-length w ↦
          appended log.table.bytes log.length v.previous (w.log-is ∙ w.store.ensures) w.length-is
          ∙ sym (missed log v (w.if-news-length.true ∙ add-one log.length))
      | else-news-length w ↦ (λ i. alone (w.log-is i) (w.length-is i)) ∙ sym (none_missed log v (rw add-one at w.if-news-length.false))
    ])

-- behind rule 2
abbrev log₂ : Joined-is_committed-place → Log
log₂ c = alone c.if-is_committed-place.log c.if-is_committed-place.length

log₂_is : (c : Joined-is_committed-place)
    → log₂ c ≡ settled_log (part_log (logs_of c.args.log.now)) (result_at c.args.self c.args.lane) (news_at c.args.self c.args.lane)
log₂_is c =
    let log = alone c.if-news-length.log c.if-news-length.length in
    let r = result_at c.args.self c.args.lane in
    rw (← log₁_is c.before.before)
    (elim c.if-is_committed-place.branch [
      | then-is_committed-place w ↦
          appended log.table.bytes log.length r.value.cue (w.log-is ∙ w.store-then-is_committed-place.ensures) w.length-is ∙ sym (due log r (rw c.is_committed.ensures at w.if-is_committed-place.true))
      | else-is_committed-place w ↦ (λ i. alone (w.log-is i) (w.length-is i)) ∙ sym (none_due log r (rw c.is_committed.ensures at w.if-is_committed-place.false))
    ])

-- a cue that is appended has its place in the log
pub overflow_add-length : goal.overflow_add-length
overflow_add-length c =
    omega (arith, length_most (logs_of c.args.log.now) 0 (length c.args.log.now / 2), c.length_from-length.ensures)

pub store-requires : goal.store-requires
store-requires c =
    let log = alone c.args.log.now c.length_from-length.result in
    let e : log ≡ part_log (logs_of c.args.log.now) = ap (alone c.args.log.now) c.length_from-length.ensures in
    let news = news_at c.args.self c.args.lane in
    let result = result_at c.args.self c.args.lane in
    let h : (settled_log log result news).length ≤ length c.args.log.now / 2 = rw e c.requires.room in
    let f = ap (λ (l : Log). l.length) (missed log news (c.if-news-length.true ∙ add-one log.length)) in
    omega (arith, committed_least (append_missed log news) result)

room : (c : Then-is_committed-place) → c.if-news-length.length < length c.args.log.now / 2
room c =
    let log = alone c.if-news-length.log c.if-news-length.length in
    let result = result_at c.args.self c.args.lane in
    let h : (append_committed log result).length ≤ length c.args.log.now / 2 = rw (log₁_is c.before.before) c.requires.room in
    let e = ap (λ (l : Log). l.length) (due log result (rw c.is_committed.ensures at c.if-is_committed-place.true)) in
    omega arith

pub store-requires-then-is_committed-place : goal.store-requires-then-is_committed-place
store-requires-then-is_committed-place c =
    omega (arith, room (goal.at.store-requires-then-is_committed-place c).Then-is_committed-place, c.if-news-length.auto.log)

-- the log that the two rules leave is within what is lent, and short
short : (c : Joined-is_committed-place)
    → (2 * c.if-is_committed-place.length ≤ length c.if-is_committed-place.log) × (c.if-is_committed-place.length ≤ 64)
short c =
    let e = ap (λ (l : Log). l.length) (log₂_is c) in
    let h = c.requires.room in
    let f = c.requires.few in
    (omega (arith, c.if-is_committed-place.auto.log, c.if-news-length.auto.log), omega arith)

pub own_cues-own-requires : goal.own_cues-own-requires
own_cues-own-requires c = let h = short (goal.at.own_cues-own-requires c).Joined-is_committed-place in (omega arith, h.1)

pub last_entry-last-requires : goal.last_entry-last-requires
last_entry-last-requires c = omega (arith, short (goal.at.last_entry-last-requires c).Joined-is_committed-place)

pub overflow_cast-self : goal.overflow_cast-self
overflow_cast-self c = omega (arith, short (goal.at.overflow_cast-self c).Joined-is_committed-place)

pub overflow_add-self : goal.overflow_add-self
overflow_add-self c =
    omega (
      arith,
      short (goal.at.overflow_add-self c).Joined-is_committed-place,
      own_most (logs_of c.if-is_committed-place.log) 0 c.args.rack c.if-is_committed-place.length,
      c.own_cues-own.ensures,
    )

pub returns-then-place-length : goal.returns-then-place-length
unfolding settled_rack
returns-then-place-length c =
    let two = (goal.at.returns-then-place-length c).Joined-is_committed-place in
    let a = c.args in
    settled_part (logs_of a.log.now) a.self a.lane a.rack (log₂ two) (log₂_is two)
    (ap (holding a.self a.lane) (sym (hold_result a.rack (state_of a.rack (log₂ two)) (result_at a.self a.lane) c.if-place-length.true)))

pub returns-else-place-length : goal.returns-else-place-length
unfolding settled_rack
returns-else-place-length c =
    let two = (goal.at.returns-else-place-length c).Joined-is_committed-place in
    let a = c.args in
    let state = state_of a.rack (log₂ two) in
    settled_part (logs_of a.log.now) a.self a.lane a.rack (log₂ two) (log₂_is two)
    (ap (holding a.self a.lane)
    (own_next_is a.rack state c.own_cues-own.ensures c.last_entry-last.ensures
    ∙ sym (hold_own a.rack state (result_at a.self a.lane) c.if-place-length.false)))
