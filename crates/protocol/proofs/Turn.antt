-- Every turn keeps the invariant, and so every reached history satisfies it.
-- The first rack to end a block of a round commits: until then every proposal in its lane is the offer of the decided source.
use mathlib.Core.Path.{◌≡◌, refl, sym, ap, ◌∙◌}
use mathlib.Core.Logic.{inl, inr, ◌≢◌}
use mathlib.Core.Bool.{true}
use mathlib.Core.List.{List, [], ◌∷◌}
use Prim.Native.Nat.{ℕ, ◌≤◌, ◌<◌}
use native.Mathlib.Omega.{arith}
use borrow.Author.Tests.{eqb-true, eq-eqb, ltb-true}
use lib.Dec.{ltb}
use Rattle.laws.proofs.Cases.{bool, either, clash_bool, eq_or_ne}
use Rattle.model.specs.Kind.{lane_of, block_of}
use Rattle.protocol.specs.Object.{Done}
use Rattle.protocol.specs.Edition.{Edition, Lawful}
use Rattle.protocol.specs.History.{Phase, offering, answering, visiting, has_answer, Turn, History, offer_of, proposal, fresh_history}
use Rattle.protocol.specs.History.{move, is_done, visit, fits_answer, act, turn, after, history}
use Rattle.protocol.proofs.AdoptCommit.{adopt_commit}
use Rattle.model.proofs.Order.{lane_of_block}
use Rattle.protocol.proofs.Invariant.{past_now, Commit, InPhase, Invariant, fresh_invariant, commit_stays}
use Rattle.protocol.proofs.RackStep.{enter_step}
use Rattle.protocol.proofs.Move.{move_grows, move_invariant}
use Rattle.protocol.proofs.EndBlock.{end_invariant}
use Rattle.protocol.proofs.Answer.{answer_invariant}

-- what a rack proposes in its first lane
pub first_proposal : {Y : Type 0} (s : History Y) (i r c : ℕ) → c ≡ (s.racks i).first r
    → proposal s i r c ≡ offer_of s.racks r c (s.decided r c)
unfolding proposal
first_proposal s i r c e = rw (eq-eqb c ((s.racks i).first r) e)

module _ (E : Edition) (W : Lawful E) (n k : ℕ) where
  -- a step in block b
  module _ (s : History E.Second) (inv : Invariant E n k s) (q : ℕ) (l : q < n) (b : ℕ) (is : (s.racks q).phase ≡ visiting b)
      (h : InPhase E n k s.objects q (s.racks q).finished ((s.racks q).first (s.racks q).finished) (visiting b)) where
    abbrev r : ℕ
    r = (s.racks q).finished

    abbrev m : ℕ
    m = (s.racks q).first r

    abbrev c : ℕ
    c = lane_of m b

    abbrev s₁ : History E.Second
    s₁ = move E n k s q c

    has : has_answer (s.racks q) r ≡ true
    has = rw is (past_now r)

    first_block : b ≡ 0 → c ≡ m
    unfolding lane_of
    first_block e = rw (eq-eqb b 0 e)

    lane_there : b ≡ 0 → c < k
    lane_there e = rw (first_block e) ((inv.rack_invariant q l).answered r has).0

    moved_invariant : Invariant E n k s₁
    moved_invariant =
        move_invariant E n k s inv q l c has
        (either (eq_or_ne b 0) (λ (e : b ≡ 0). inr (first_block e)) (λ (d : b ≢ 0). inl (h.2 (omega arith))))

    -- "the next block to end has a committed result"
    has_commit : Done n (s₁.objects r c) q → Commit E n k s₁.objects r
    has_commit d =
        either (eq_or_ne b 0)
        (λ (e : b ≡ 0).
        either (moved_invariant.first_finisher r)
        (λ cm. cm)
        (λ f. (
          q,
          c,
          l,
          lane_there e,
          d,
          ((adopt_commit E W n (s₁.objects r c) (moved_invariant.consistent r c)).commitment q l d
              (offer_of s₁.racks r c (s₁.decided r c))
              (λ w pw.
              (moved_invariant.proposed r c pw.0 w pw.2).2 ∙ first_proposal s₁ pw.0 r c (f c pw.0 w pw.2))
              ).0,
        )))
        (λ (d : b ≢ 0). commit_stays E n k s s₁ (move_grows E n k s inv q l c has) r (h.2 (omega arith)))

    up_to_here : Done n (s₁.objects r c) q → (c' : ℕ) → block_of m c' ≤ b → Done n (s₁.objects r c') q
    up_to_here d c' le =
        either (eq_or_ne (block_of m c') b)
        (λ (e : block_of m c' ≡ b).
        let same : c' ≡ c = sym (lane_of_block m c') ∙ ap (lane_of m) e in
        rw same d)
        (λ (ne : block_of m c' ≢ b). ((move_grows E n k s inv q l c has).objects_stay r c' q l (h.1 c' (omega arith))).done)

    visit_invariant : Invariant E n k (visit E n k s q b)
    visit_invariant =
        either (bool (is_done E n k s₁ q c))
        (λ t.
        let d = eqb-true _ _ t in
        rw t (end_invariant E n k s₁ q moved_invariant l b is (up_to_here d) (has_commit d)))
        (λ f. rw f moved_invariant)

  act_invariant : (s : History E.Second) → Invariant E n k s → (t : Turn) → t.rack < n → (phase : Phase) → (s.racks t.rack).phase ≡ phase
      → InPhase E n k s.objects t.rack (s.racks t.rack).finished ((s.racks t.rack).first (s.racks t.rack).finished) phase
      → Invariant E n k (act E n k s t phase)
  unfolding act
  act_invariant s inv t l offering is h =
      enter_step E n k s inv t.rack l answering (λ _. refl) (λ e. clash_bool e (rw is refl)) (λ e. clash_bool e refl) tt
  act_invariant s inv t l answering is h =
      either (bool (fits_answer E n k s (s.racks t.rack).finished t.lane t.source))
      (λ e. rw e (answer_invariant E n k s inv t.rack l is t.lane t.source e))
      (λ e. rw e inv)
  act_invariant s inv t l (visiting b) is h = visit_invariant s inv t.rack l b is h

  pub turn_invariant : (s : History E.Second) (t : Turn) → Invariant E n k s → Invariant E n k (turn E n k s t)
  unfolding turn
  turn_invariant s t inv =
      either (bool (ltb t.rack n))
      (λ e.
      let l = ltb-true t.rack n e in
      rw e (act_invariant s inv t l (s.racks t.rack).phase refl (inv.rack_invariant t.rack l).in_phase))
      (λ e. rw e inv)

  pub after_invariant : (s : History E.Second) (ts : List Turn) → Invariant E n k s → Invariant E n k (after E n k s ts)
  unfolding after
  after_invariant s [] inv = inv
  after_invariant s (t ∷ ts) inv = after_invariant (turn E n k s t) ts (turn_invariant s t inv)

  -- every reached history
  pub history_invariant : (ts : List Turn) → Invariant E n k (history E n k ts)
  history_invariant ts = after_invariant (fresh_history E) ts (fresh_invariant E n k)
