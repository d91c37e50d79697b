-- The exact count of turns: an accepted turn is one step of its rack, whatever the others do, and any other turn changes nothing. So
-- finished rounds and step number are the quotient and the remainder of a rack's accepted turns by the length of a round.
use mathlib.Core.Path.{◌≡◌, refl, sym, ap}
use mathlib.Core.Logic.{◌≢◌}
use mathlib.Core.Bool.{true, false, cond, ◌&&◌}
use mathlib.Core.List.{List, [], ◌∷◌}
use Prim.Native.Nat.{ℕ, ◌+◌, ◌*◌, ◌<◌, ◌/◌, ◌%◌}
use native.Mathlib.Omega.{arith}
use native.Mathlib.Nat.{mul-le-mul_right, div-eq_of_lt-le, div-add-mod'}
use borrow.Author.Tests.{ltb-true, eq-eqb, ne_eqb}
use lib.Dec.{eqb, ltb}
use Rattle.laws.proofs.Cases.{bool, either, clash_bool, and_true, true_and, eq_or_ne}
use Rattle.protocol.specs.Edition.{Edition, Lawful}
use Rattle.protocol.specs.History.{Phase, offering, answering, visiting, History, Turn, fresh_history, act, turn, after, history}
use Rattle.protocol.specs.Clock.{block_length, round_length, step_in, accepts_in, accepts, step_of, accepted}
use Rattle.protocol.proofs.Steps.{fresh_taken}
use Rattle.protocol.proofs.Invariant.{InPhase, Invariant, fresh_invariant}
use Rattle.protocol.proofs.Turn.{turn_invariant, history_invariant}
use Rattle.protocol.proofs.Placed.{Now, Clocked, total, Stepped, act_stepped}
use Rattle.protocol.proofs.Others.{turn_apart, placed_stays, step_stays}

module _ (E : Edition) (n k : ℕ) where
  -- a turn that is not accepted changes nothing
  pub refused : (s : History E.Second) (t : Turn) → accepts E n k s t ≡ false → turn E n k s t ≡ s
  unfolding accepts turn
  refused s t e =
      either (bool (ltb t.rack n))
      (λ y. rw y (idle (s.racks t.rack).phase (rw y at e)))
      (λ f. rw f)
    where
      idle : (phase : Phase) → accepts_in E n k s t phase ≡ false → act E n k s t phase ≡ s
      idle offering e = unfold accepts_in in clash_bool refl e
      idle answering e = unfold accepts_in act in (rw e)
      idle (visiting b) e = unfold accepts_in in clash_bool refl e

  module _ (s : History E.Second) (inv : Invariant E n k s) (clocked : Clocked E n k s) (t : Turn) where
    abbrev pub next : History E.Second
    next = turn E n k s t

    -- an accepted turn is one step of its rack
    turn_stepped : accepts E n k s t ≡ true
        → Stepped E n k next.objects t.rack (total E n k s.objects t.rack (s.racks t.rack)) (next.racks t.rack)
    unfolding accepts turn
    turn_stepped e =
        let y = and_true (ltb t.rack n) _ e in
        let l = ltb-true t.rack n y.0 in
        let a = s.racks t.rack in
        rw y.0
        (act_stepped E n k s inv t.rack l (clocked t.rack l) t refl a.phase refl y.1 (inv.rack_invariant t.rack l).in_phase
        (clocked t.rack l).now)

    pub turn_clocked : Clocked E n k next
    turn_clocked p l =
        either (bool (accepts E n k s t))
        (λ y. either (eq_or_ne p t.rack)
        (λ (e : p ≡ t.rack). rw e (turn_stepped y).0)
        (λ (d : p ≢ t.rack).
        let apart = turn_apart E n k s inv t p d in
        rw apart.0 (placed_stays E n k s.objects next.objects p apart.1 (s.racks p) (clocked p l))))
        (λ f. rw (refused s t f) (clocked p l))

    pub turn_total : (q : ℕ) → q < n
        → total E n k next.objects q (next.racks q) ≡ cond (eqb q t.rack && accepts E n k s t) 1 0 + total E n k s.objects q (s.racks q)
    turn_total q l =
        either (bool (accepts E n k s t))
        (λ y. either (eq_or_ne q t.rack)
        (λ (e : q ≡ t.rack). rw (true_and (eq-eqb q t.rack e) y, e) (omega (arith, (turn_stepped y).1)))
        (λ (d : q ≢ t.rack).
        let apart = turn_apart E n k s inv t q d in
        rw (ne_eqb q t.rack d, apart.0)
        (omega (
          arith,
          step_stays E n k s.objects next.objects q apart.1
              (s.racks q).finished ((s.racks q).first (s.racks q).finished) (s.racks q).phase,
        ))))
        (λ f.
        let none : eqb q t.rack && accepts E n k s t ≡ false = either (bool (eqb q t.rack)) (λ b. rw (b, f)) (λ b. rw b) in
        rw (none, refused s t f) (omega arith))

  pub fresh_clocked : Clocked E n k (fresh_history E)
  fresh_clocked q l = record { later = λ r c h. fresh_taken E.Second q; now = λ c. fresh_taken E.Second q }

module _ (E : Edition) (W : Lawful E) (n k : ℕ) where
  pub after_clocked : (s : History E.Second) (ts : List Turn) → Invariant E n k s → Clocked E n k s → Clocked E n k (after E n k s ts)
  unfolding after
  after_clocked s [] inv clocked = clocked
  after_clocked s (t ∷ ts) inv clocked =
      after_clocked (turn E n k s t) ts (turn_invariant E W n k s t inv) (turn_clocked E n k s inv clocked t)

  pub history_clocked : (ts : List Turn) → Clocked E n k (history E n k ts)
  history_clocked ts = after_clocked (fresh_history E) ts (fresh_invariant E n k) (fresh_clocked E n k)

  after_total : (s : History E.Second) (ts : List Turn) → Invariant E n k s → Clocked E n k s → (q : ℕ) → q < n
      → let s' = after E n k s ts in total E n k s'.objects q (s'.racks q) ≡ accepted E n k q s ts + total E n k s.objects q (s.racks q)
  unfolding after accepted
  after_total s [] inv clocked q l = omega arith
  after_total s (t ∷ ts) inv clocked q l =
      omega (
        arith,
        after_total (turn E n k s t) ts (turn_invariant E W n k s t inv) (turn_clocked E n k s inv clocked t) q l,
        turn_total E n k s inv clocked t q l,
      )

  -- a step number is below the length of a round
  step_below : (s : History E.Second) (q r m : ℕ) (phase : Phase) → InPhase E n k s.objects q r m phase → Now E n k s.objects q r m phase
      → step_in n s.objects q r m phase < round_length n k
  unfolding step_in
  step_below s q r m offering h now = omega arith
  step_below s q r m answering h now = omega arith
  step_below s q r m (visiting b) h now = omega (arith, now.0, mul-le-mul_right (block_length n) h.0)

  -- "a rack with T taken turns is at round 1 + T / S and step T mod S, where S is the number of steps of a round"
  module _ (ts : List Turn) (q : ℕ) (l : q < n) where
    abbrev s : History E.Second
    s = history E n k ts

    abbrev T : ℕ
    T = accepted E n k q (fresh_history E) ts

    steps_taken_is : (s.racks q).finished * round_length n k + step_of n s q ≡ T
    unfolding step_in
    steps_taken_is =
        omega (
          arith,
          after_total (fresh_history E) ts (fresh_invariant E n k) (fresh_clocked E n k) q l,
        )

    below_round : step_of n s q < round_length n k
    below_round =
        step_below s q _ _ (s.racks q).phase ((history_invariant E W n k ts).rack_invariant q l).in_phase (history_clocked ts q l).now

    pub rounds_finished : (s.racks q).finished ≡ T / round_length n k
    rounds_finished =
        sym (div-eq_of_lt-le {k = (s.racks q).finished} (round_length n k) {m = T}
        (omega (arith, steps_taken_is)) (omega (arith, steps_taken_is, below_round)))

    pub step_number : step_of n s q ≡ T % round_length n k
    step_number =
        let e = ap (λ (x : ℕ). x * round_length n k) rounds_finished in
        omega (arith, steps_taken_is, e, div-add-mod' T (round_length n k))
