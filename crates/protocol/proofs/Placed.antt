-- Where each rack is in the objects of its rounds, and that its own turn is one step: a step in a block adds one in that block's lane alone.
use mathlib.Core.Path.{◌≡◌, refl, sym, ap, ◌∙◌, subst}
use mathlib.Core.Logic.{◌≢◌}
use mathlib.Core.Bool.{true}
use Prim.Native.Nat.{ℕ, suc, ◌+◌, ◌*◌, ◌<◌}
use native.Mathlib.Omega.{arith}
use borrow.Author.Tests.{eqb-true, eqb-false, ltb-false}
use lib.Dec.{ltb}
use Rattle.laws.proofs.Cases.{bool, either}
use Rattle.model.specs.Size.{leading}
use Rattle.model.specs.Kind.{lane_of, block_of}
use Rattle.protocol.specs.Put.{put}
use Rattle.protocol.specs.Object.{Object, taken}
use Rattle.protocol.specs.Edition.{Edition}
use Rattle.protocol.specs.History.{Phase, offering, answering, visiting, History, Rack, enter, Turn, proposal, settled, end_block}
use Rattle.protocol.specs.History.{move, is_done, visit, answer, act}
use Rattle.protocol.specs.Clock.{block_length, round_length, step_in, step_by, accepts_in}
use Rattle.protocol.proofs.Put.{put_same, put_at_all, put_at_same, put_at_lane, put_at_round}
use Rattle.protocol.proofs.Object.{Consistent, step_consistent}
use Rattle.protocol.proofs.Steps.{own_move_is, other_move, done_taken, taken_done}
use Rattle.model.proofs.Order.{block_of_lane}
use Rattle.protocol.proofs.Invariant.{InPhase, Invariant}

module _ (E : Edition) (n k : ℕ) where
  abbrev pub Objects : Type 0
  Objects = ℕ → ℕ → Object E.Second

  -- in its present round: nothing before its first block, and in block b nothing in the lanes of later blocks
  abbrev pub Now : Objects → ℕ → ℕ → ℕ → Phase → Type 0
  Now objects q r m offering = (c : ℕ) → taken (objects r c) q ≡ 0
  Now objects q r m answering = (c : ℕ) → taken (objects r c) q ≡ 0
  Now objects q r m (visiting b) =
      (taken (objects r (lane_of m b)) q < block_length n) × ((c : ℕ) → b < block_of m c → taken (objects r c) q ≡ 0)

  pub record Placed (objects : Objects) (q : ℕ) (a : Rack) : Type 0 where
    pub later : (r c : ℕ) → a.finished < r → taken (objects r c) q ≡ 0
    pub now : Now objects q a.finished (a.first a.finished) a.phase

  -- every rack is where its phase says
  abbrev pub Clocked : History E.Second → Type 0
  Clocked s = (q : ℕ) → q < n → Placed s.objects q (s.racks q)

  -- all steps that rack q, in state a, has taken
  abbrev pub total : Objects → ℕ → Rack → ℕ
  total objects q a = a.finished * round_length n k + step_by n objects q a

  -- after one more step
  abbrev pub Stepped : Objects → ℕ → ℕ → Rack → Type 0
  Stepped objects q old a = Placed objects q a × (total objects q a ≡ suc old)

  -- a step of q in lane c₀ of its round: one more there, and nothing elsewhere or of another rack
  module _ (s : History E.Second) (inv : Invariant E n k s) (q : ℕ) (c₀ : ℕ) where
    abbrev pub r₀ : ℕ
    r₀ = (s.racks q).finished

    abbrev pub moved : Objects
    moved = (move E n k s q c₀).objects

    move_own : taken (s.objects r₀ c₀) q < block_length n → taken (moved r₀ c₀) q ≡ suc (taken (s.objects r₀ c₀) q)
    move_own h =
        let e = own_move_is E.make n (s.objects r₀ c₀) (record { rack = q; proposal = proposal s q r₀ c₀ }) (inv.consistent r₀ c₀) in
        ap (λ (o : Object E.Second). taken o q) (put_at_same s.objects r₀ c₀ _) ∙ omega (arith, e)

    move_lane : (r c : ℕ) → c ≢ c₀ → taken (moved r c) q ≡ taken (s.objects r c) q
    move_lane r c d = ap (λ (o : Object E.Second). taken o q) (put_at_lane s.objects r₀ c₀ _ r c d)

    move_round : (r c : ℕ) → r ≢ r₀ → taken (moved r c) q ≡ taken (s.objects r c) q
    move_round r c d = ap (λ (o : Object E.Second). taken o q) (put_at_round s.objects r₀ c₀ _ r c d)

    pub move_other : (p : ℕ) → p ≢ q → (r c : ℕ) → taken (moved r c) p ≡ taken (s.objects r c) p
    move_other p d = put_at_all s.objects r₀ c₀ _ (λ r c o. taken o p ≡ taken (s.objects r c) p)
        (other_move E.make n (s.objects r₀ c₀) (record { rack = q; proposal = proposal s q r₀ c₀ }) p d)
        (λ r c. refl)

  -- q's own step in each phase
  module _ (s : History E.Second) (inv : Invariant E n k s) (q : ℕ) (l : q < n) (placed : Placed s.objects q (s.racks q)) where
    abbrev pub a : Rack
    a = s.racks q

    abbrev pub r : ℕ
    r = a.finished

    abbrev pub m : ℕ
    m = a.first r

    module _ (b : ℕ) (is : a.phase ≡ visiting b) (below : b < k) (now : Now s.objects q r m (visiting b)) where
      abbrev c : ℕ
      c = lane_of m b

      abbrev s₁ : History E.Second
      s₁ = move E n k s q c

      abbrev old : ℕ
      old = r * round_length n k + (leading + b * block_length n + taken (s.objects r c) q)

      one_more : taken (s₁.objects r c) q ≡ suc (taken (s.objects r c) q)
      one_more = move_own s inv q c now.0

      later_rounds : (r' c' : ℕ) → r < r' → taken (s₁.objects r' c') q ≡ 0
      later_rounds r' c' h = move_round s inv q c r' c' (omega arith) ∙ placed.later r' c' h

      later_lanes : (c' : ℕ) → b < block_of m c' → taken (s₁.objects r c') q ≡ 0
      later_lanes c' h = move_lane s inv q c r c' (λ e. omega (arith, ap (block_of m) e, block_of_lane m b)) ∙ now.1 c' h

      consistent : Consistent E.make n (s₁.objects r c)
      consistent = rw (put_at_same s.objects r c _) (step_consistent E.make n (s.objects r c) _ (inv.consistent r c))

      end_stepped : taken (s₁.objects r c) q ≡ block_length n
          → let s₂ = end_block E n k s₁ q b in Stepped s₂.objects q old (s₂.racks q)
      unfolding end_block step_in
      end_stepped e =
          either (bool (ltb (suc b) k))
          (λ t.
          let z = later_lanes (lane_of m (suc b)) (omega (arith, block_of_lane m (suc b))) in
          rw t
          (subst (λ (x : Rack). Stepped s₁.objects q old x) (sym (put_same s.racks q (enter a (visiting (suc b))))) (
            record { later = later_rounds; now = (omega arith, λ c' h. later_lanes c' (omega arith)) },
            omega (arith, one_more, e, z),
          )))
          (λ f.
          let last = ltb-false (suc b) k f in
          let all : suc b * block_length n ≡ k * block_length n = ap (λ (x : ℕ). x * block_length n) (omega arith) in
          rw f
          (subst (λ (x : Rack). Stepped s₁.objects q old x) (sym (put_same s.racks q (settled E s₁ q a))) (
            record { later = λ r' c' h. later_rounds r' c' (omega arith); now = λ c'. later_rounds (suc r) c' (omega arith) },
            omega (arith, one_more, e, all),
          )))

      visit_stepped : let s₂ = visit E n k s q b in Stepped s₂.objects q old (s₂.racks q)
      unfolding step_in
      visit_stepped =
          either (bool (is_done E n k s₁ q c))
          (λ t. rw t (end_stepped (done_taken E.make n (s₁.objects r c) consistent q l (eqb-true _ _ t))))
          (λ f.
          let not_all : taken (s₁.objects r c) q ≢ block_length n =
          λ e. eqb-false _ _ f (taken_done E.make n (s₁.objects r c) consistent q e) in
          rw f (
            record { later = later_rounds; now = rw is (omega (arith, one_more, now.0), later_lanes) },
            rw is (omega (arith, one_more)),
          ))

    answer_stepped : Now s.objects q r m answering → (m' p : ℕ)
        → let s₂ = answer E n k s q m' p in Stepped s₂.objects q (r * round_length n k + 1) (s₂.racks q)
    unfolding step_in
    answer_stepped now m' p =
        subst (λ (x : Rack). Stepped s.objects q (r * round_length n k + 1) x) (sym (put_same s.racks q _)) (
          record { later = placed.later; now = (omega (arith, now (lane_of (put a.first r m' r) 0)), λ c h. now c) },
          omega (arith, now (lane_of (put a.first r m' r) 0)),
        )

    pub act_stepped : (t : Turn) → t.rack ≡ q → (phase : Phase) → a.phase ≡ phase → accepts_in E n k s t phase ≡ true
        → InPhase E n k s.objects q r m phase → Now s.objects q r m phase
        → let s₂ = act E n k s t phase in Stepped s₂.objects q (r * round_length n k + step_in n s.objects q r m phase) (s₂.racks q)
    unfolding act step_in accepts_in
    act_stepped t e offering is y h now =
        rw e
        (subst (λ (x : Rack). Stepped s.objects q (r * round_length n k + 0) x) (sym (put_same s.racks q (enter a answering)))
        (record { later = placed.later; now = now }, omega arith))
    act_stepped t e answering is y h now = rw e (rw (rw e at y) (answer_stepped now t.lane t.source))
    act_stepped t e (visiting b) is y h now = rw e (visit_stepped b is h.0 now)
