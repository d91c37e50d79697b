-- What every reached history satisfies, and that it only grows: what was offered, answered, decided or done stays so.
-- In the sentences quoted, H r l q and G r l q are the value that rack q holds and its log in lane l when round r begins.
use mathlib.Core.Path.{◌≡◌, refl, sym, ap, ◌∙◌}
use mathlib.Core.Logic.{◌⊎◌, inl, inr, ◌≢◌}
use mathlib.Core.Bool.{Bool, true, false, ◌&&◌}
use mathlib.Core.Option.{some}
use Prim.Native.Nat.{ℕ, suc, ◌≤◌, ◌<◌}
use native.Mathlib.Omega.{arith}
use borrow.Author.Tests.{eqb-true, eq-eqb, ne_eqb, ltb-true, lt-ltb}
use lib.Dec.{eqb, ltb}
use Rattle.laws.proofs.Cases.{either, eq_or_ne, clash, clash_bool, or_true, true_or, or_right, and_true, true_and}
use Rattle.model.specs.declared.Value.{Value}
use Rattle.model.specs.Kind.{block_of}
use Rattle.protocol.specs.Object.{Object, Done}
use Rattle.protocol.specs.AdoptCommit.{Marked}
use Rattle.protocol.specs.Edition.{Edition, result, news_of}
use Rattle.protocol.specs.Log.{start, own_next}
use Rattle.protocol.specs.Settle.{settled_log, next_held}
use Rattle.protocol.specs.History.{Phase, offering, answering, visiting, Rack, is_past, has_offered, has_answer, History, proposal}
use Rattle.protocol.specs.History.{fresh_history}
use Rattle.protocol.proofs.Object.{Consistent, fresh_consistent}
use Rattle.protocol.proofs.AdoptCommit.{Stays}

-- a point of a round that is past: the round is finished, or it is the present one and the point is past in it
pub past_cases : (finished r : ℕ) (now : Bool) → is_past finished r now ≡ true → (r < finished) ⊎ ((r ≡ finished) × (now ≡ true))
unfolding is_past
past_cases finished r now e =
    either (or_true (ltb r finished) (eqb r finished && now) e)
    (λ t. inl (ltb-true r finished t))
    (λ f. let b = and_true (eqb r finished) now f in inr (eqb-true r finished b.0, b.1))

pub past_before : (finished r : ℕ) (now : Bool) → r < finished → is_past finished r now ≡ true
unfolding is_past
past_before finished r now l = true_or _ (lt-ltb r finished l)

pub past_now : (finished : ℕ) → is_past finished finished true ≡ true
unfolding is_past
past_now finished = or_right (ltb finished finished) (true_and (eq-eqb finished finished refl) refl)

pub past_reached : (finished r : ℕ) (now : Bool) → is_past finished r now ≡ true → r ≤ finished
past_reached finished r now e = either (past_cases finished r now e) (λ l. omega arith) (λ s. omega (arith, s.0))

-- what is past in the present round may become more
pub past_later : (finished r : ℕ) (now later : Bool) → (now ≡ true → later ≡ true) → is_past finished r now ≡ true → is_past finished r later ≡ true
past_later finished r now later f e =
    either (past_cases finished r now e)
    (λ l. past_before finished r later l)
    (λ s. rw (s.0, f s.1) (past_now finished))

-- a rack goes on: what it held, its first lanes and what it has passed stay
pub record Goes (a b : Rack) : Type 0 where
  pub same_held : (r c : ℕ) → r ≤ a.finished → b.held r c ≡ a.held r c
  pub same_first : (r : ℕ) → has_answer a r ≡ true → b.first r ≡ a.first r
  pub still_offered : (r : ℕ) → has_offered a r ≡ true → has_offered b r ≡ true
  pub still_answered : (r : ℕ) → has_answer a r ≡ true → has_answer b r ≡ true

pub goes_refl : (a : Rack) → Goes a a
goes_refl a =
    record {
      same_held = λ r c l. refl;
      same_first = λ r e. refl;
      still_offered = λ r e. e;
      still_answered = λ r e. e;
    }

-- "every rack that has started in object (r, l) has l as its first lane"
abbrev pub FirstLanes : {Y : Type 0} → History Y → ℕ → Type 0
FirstLanes s r = (c i : ℕ) (x : Value) → ((s.objects r c).firsts i).cell ≡ some x → c ≡ (s.racks i).first r

module _ (E : Edition) (n k : ℕ) where
  -- "some result of round r (any lane, any rack) is committed"
  abbrev pub Commit : (ℕ → ℕ → Object E.Second) → ℕ → Type 0
  Commit objects r = (q c : ℕ) × (q < n) × (c < k) × Done n (objects r c) q × ((result E (objects r c) q).committed ≡ true)

  -- a rack in block b of round r, with first lane m: it is done with the lanes of the blocks before
  abbrev pub InPhase : (ℕ → ℕ → Object E.Second) → ℕ → ℕ → ℕ → Phase → Type 0
  InPhase objects q r m offering = Unit {0}
  InPhase objects q r m answering = Unit {0}
  InPhase objects q r m (visiting b) =
      (b < k) × ((c : ℕ) → block_of m c < b → Done n (objects r c) q) × (0 < b → Commit objects r)

  -- a rack q in state a
  pub record RackInvariant (s : History E.Second) (q : ℕ) (a : Rack) : Type 0 where
    pub in_phase : InPhase s.objects q a.finished (a.first a.finished) a.phase
    -- its first lane of a round is decided
    pub answered : (r : ℕ) → has_answer a r ≡ true → (a.first r < k) × (p : ℕ) × (s.decided r (a.first r) ≡ some p)
    -- "all 2n + 2 steps in finished rounds"
    pub ended : (r c : ℕ) → r < a.finished → c < k → Done n (s.objects r c) q
    -- "If some rack has ended a block of round r, some result of round r is committed."
    pub committed : (r : ℕ) → r < a.finished → Commit s.objects r
    -- "H (r+1) l q and G (r+1) l q come from G r l q and the object's result and news for q by the three settling rules"
    pub log_zero : (c : ℕ) → a.log 0 c ≡ start
    pub held_zero : (c : ℕ) → a.held 0 c ≡ own_next q start
    pub log_suc : (r c : ℕ) → r < a.finished → c < k
        → a.log (suc r) c ≡ settled_log (a.log r c) (result E (s.objects r c) q) (news_of E (s.objects r c) q)
    pub held_suc : (r c : ℕ) → r < a.finished → c < k → a.held (suc r) c ≡ next_held q (a.log (suc r) c) (result E (s.objects r c) q)

  pub record Invariant (s : History E.Second) : Type 0 where
    pub consistent : (r c : ℕ) → Consistent E.make n (s.objects r c)
    pub rack_invariant : (q : ℕ) → q < n → RackInvariant s q (s.racks q)
    -- "where (r, m) is decided for s, the offer of s at (r, m) is there"
    pub decided_offered : (r c p : ℕ) → s.decided r c ≡ some p → (p < n) × (has_offered (s.racks p) r ≡ true)
    -- "q's proposal in its first lane m is the offer of the decided source of (r, m); in every other lane it is H r l q"
    pub proposed : (r c i : ℕ) (x : Value) → ((s.objects r c).firsts i).cell ≡ some x
        → (i < n) × (has_answer (s.racks i) r ≡ true) × (x ≡ proposal s i r c)
    -- the first finisher
    pub first_finisher : (r : ℕ) → Commit s.objects r ⊎ FirstLanes s r

  pub fresh_invariant : Invariant (fresh_history E)
  fresh_invariant =
      record {
        consistent = λ r c. fresh_consistent E.make n;
        rack_invariant = λ q l. record {
          in_phase = tt;
          answered = λ r e. either (past_cases 0 r false e) (λ h. absurd (omega arith)) (λ h. clash_bool h.1 refl);
          ended = λ r c h. absurd (omega arith);
          committed = λ r h. absurd (omega arith);
          log_zero = λ c. refl;
          held_zero = λ c. refl;
          log_suc = λ r c h. absurd (omega arith);
          held_suc = λ r c h. absurd (omega arith);
        };
        decided_offered = λ r c p e. clash refl e;
        proposed = λ r c i x e. clash refl e;
        first_finisher = λ r. inr (λ c i x e. clash refl e);
      }

  -- the whole history goes on
  pub record Grows (s s' : History E.Second) : Type 0 where
    pub racks_go : (p : ℕ) → Goes (s.racks p) (s'.racks p)
    pub objects_stay : (r c q : ℕ) → q < n → Done n (s.objects r c) q → Stays E n (s.objects r c) (s'.objects r c) q
    pub decided_stays : (r c p : ℕ) → s.decided r c ≡ some p → s'.decided r c ≡ some p

  module _ (s s' : History E.Second) (g : Grows s s') where
    pub commit_stays : (r : ℕ) → Commit s.objects r → Commit s'.objects r
    commit_stays r h =
        let a = g.objects_stay r h.1 h.0 h.2 h.4 in
        (h.0, h.1, h.2, h.3, a.done, ap (λ (m : Marked). m.committed) a.result_stays ∙ h.5)

    phase_stays : (q : ℕ) → q < n → (r m : ℕ) (phase : Phase) → InPhase s.objects q r m phase → InPhase s'.objects q r m phase
    phase_stays q l r m offering h = tt
    phase_stays q l r m answering h = tt
    phase_stays q l r m (visiting b) h =
        (h.0, λ c lc. (g.objects_stay r c q l (h.1 c lc)).done, λ z. commit_stays r (h.2 z))

    -- a rack that did not move
    pub rack_stays : (q : ℕ) → q < n → (a : Rack) → RackInvariant s q a → RackInvariant s' q a
    rack_stays q l a h =
        record {
          in_phase = phase_stays q l a.finished (a.first a.finished) a.phase h.in_phase;
          answered = λ r e. let x = h.answered r e in (x.0, x.1, g.decided_stays r (a.first r) x.1 x.2);
          ended = λ r c lr lc. (g.objects_stay r c q l (h.ended r c lr lc)).done;
          committed = λ r lr. commit_stays r (h.committed r lr);
          log_zero = h.log_zero;
          held_zero = h.held_zero;
          log_suc = λ r c lr lc.
              let e = g.objects_stay r c q l (h.ended r c lr lc) in
              rw (e.result_stays, e.news_stays) (h.log_suc r c lr lc);
          held_suc = λ r c lr lc. let e = g.objects_stay r c q l (h.ended r c lr lc) in rw e.result_stays (h.held_suc r c lr lc);
        }

    module _ (inv : Invariant s) where
      -- what a rack proposes in a round once it has its answer
      pub proposal_stays : (i : ℕ) → i < n → (r c : ℕ) → has_answer (s.racks i) r ≡ true → proposal s' i r c ≡ proposal s i r c
      unfolding proposal
      proposal_stays i l r c h =
          let a = g.racks_go i in
          rw (a.same_first r h)
          (either (eq_or_ne c ((s.racks i).first r))
          (λ (e : c ≡ (s.racks i).first r).
          let x = (inv.rack_invariant i l).answered r h in
          let d : s.decided r c ≡ some x.1 = rw e x.2 in
          let reached = past_reached (s.racks x.1).finished r _ (inv.decided_offered r c x.1 d).1 in
          rw (eq-eqb c ((s.racks i).first r) e, g.decided_stays r c x.1 d, d) ((g.racks_go x.1).same_held r c reached))
          (λ (d : c ≢ (s.racks i).first r).
          rw (ne_eqb c ((s.racks i).first r) d) (a.same_held r c (past_reached (s.racks i).finished r _ h))))

      -- in an object that did not change
      pub proposed_stays : (r c i : ℕ) (x : Value) → ((s.objects r c).firsts i).cell ≡ some x
          → (i < n) × (has_answer (s'.racks i) r ≡ true) × (x ≡ proposal s' i r c)
      proposed_stays r c i x e =
          let h = inv.proposed r c i x e in
          (h.0, (g.racks_go i).still_answered r h.1, h.2 ∙ sym (proposal_stays i h.0 r c h.1))

      pub first_lane_stays : (r c i : ℕ) (x : Value) → ((s.objects r c).firsts i).cell ≡ some x
          → c ≡ (s.racks i).first r → c ≡ (s'.racks i).first r
      first_lane_stays r c i x e f = f ∙ sym ((g.racks_go i).same_first r (inv.proposed r c i x e).1)
