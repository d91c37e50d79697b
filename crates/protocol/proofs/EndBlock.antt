-- The end of a block keeps the invariant: the rack goes on to its next block, or it settles every lane and its next round begins.
use mathlib.Core.Path.{◌≡◌, refl, sym, ap, ◌∙◌}
use mathlib.Core.Logic.{◌⊎◌, inl, inr}
use mathlib.Core.Bool.{true, false}
use Prim.Native.Nat.{ℕ, suc, ◌≤◌, ◌<◌}
use native.Mathlib.Omega.{arith}
use borrow.Author.Tests.{ltb-true, ltb-false}
use lib.Dec.{ltb}
use Rattle.laws.proofs.Cases.{bool, either, clash_bool, eq_or_ne}
use Rattle.model.specs.declared.Value.{Value}
use Rattle.model.specs.Kind.{block_of}
use Rattle.protocol.specs.Put.{put}
use Rattle.protocol.specs.Object.{Done}
use Rattle.protocol.specs.Edition.{Edition, result, news_of}
use Rattle.protocol.specs.Log.{Log}
use Rattle.protocol.specs.Settle.{settled_log, next_held}
use Rattle.protocol.specs.History.{visiting, Rack, has_answer, History, settled, end_block}
use Rattle.protocol.proofs.Put.{put_same, put_other}
use Rattle.model.proofs.Order.{block_below}
use Rattle.protocol.proofs.Invariant.{past_cases, past_before, past_now, past_reached, Goes, Commit, RackInvariant, Invariant}
use Rattle.protocol.proofs.RackStep.{still_offered, rack_step, enter_step}

module _ (E : Edition) (n k : ℕ) where
  -- a rack before and after it settles
  module _ (s : History E.Second) (q : ℕ) where
    abbrev A : Rack
    A = s.racks q

    abbrev S : Rack
    S = settled E s q A

    log_old : (r c : ℕ) → r ≤ A.finished → S.log r c ≡ A.log r c
    log_old r c h = ap (λ (f : ℕ → Log). f c) (put_other A.log (suc A.finished) _ r (λ e. omega arith))

    held_old : (r c : ℕ) → r ≤ A.finished → S.held r c ≡ A.held r c
    held_old r c h = ap (λ (f : ℕ → Value). f c) (put_other A.held (suc A.finished) _ r (λ e. omega arith))

    log_new : (c : ℕ) → S.log (suc A.finished) c
        ≡ settled_log (A.log A.finished c) (result E (s.objects A.finished c) q) (news_of E (s.objects A.finished c) q)
    log_new c = ap (λ (f : ℕ → Log). f c) (put_same A.log (suc A.finished) _)

    held_new : (c : ℕ) → S.held (suc A.finished) c
        ≡ next_held q (S.log (suc A.finished) c) (result E (s.objects A.finished c) q)
    held_new c =
        ap (λ (f : ℕ → Value). f c) (put_same A.held (suc A.finished) _)
        ∙ ap (λ (x : Log). next_held q x (result E (s.objects A.finished c) q)) (sym (log_new c))

    pub settled_goes : Goes (s.racks q) (settled E s q (s.racks q))
    settled_goes =
        record {
          same_held = held_old;
          same_first = λ r e. refl;
          still_offered = λ r e. past_before (suc A.finished) r false (omega (arith, past_reached A.finished r _ e));
          still_answered = λ r e. past_before (suc A.finished) r false (omega (arith, past_reached A.finished r _ e));
        }

    -- the end of q's block b: the lanes up to it are done, and the round has a commit
    module _ (inv : Invariant E n k s) (l : q < n) (b : ℕ) (is : (s.racks q).phase ≡ visiting b)
        (done : (c : ℕ) → block_of ((s.racks q).first (s.racks q).finished) c ≤ b → Done n (s.objects (s.racks q).finished c) q)
        (commit : Commit E n k s.objects (s.racks q).finished) where
      ok : RackInvariant E n k s q A
      ok = inv.rack_invariant q l

      has_answer_is : has_answer A A.finished ≡ true
      has_answer_is = rw is (past_now A.finished)

      -- a finished round was finished before, or is the present one
      was : (r : ℕ) → r < suc A.finished → (r < A.finished) ⊎ (r ≡ A.finished)
      was r h = either (eq_or_ne r A.finished) (λ e. inr e) (λ d. inl (omega arith))

      settled_invariant : k ≤ suc b → RackInvariant E n k (record { racks = put s.racks q S; objects = s.objects; decided = s.decided }) q S
      settled_invariant last =
          record {
            in_phase = tt;
            answered = λ r e.
                either (past_cases (suc A.finished) r false e)
                (λ h. either (was r h)
                (λ h. ok.answered r (past_before A.finished r _ h))
                (λ (e : r ≡ A.finished). rw e (ok.answered A.finished has_answer_is)))
                (λ h. clash_bool h.1 refl);
            ended = λ r c lr lc.
                either (was r lr)
                (λ h. ok.ended r c h lc)
                (λ (e : r ≡ A.finished).
                rw e (done c (omega (arith, block_below (A.first A.finished) k c (ok.answered A.finished has_answer_is).0 lc))));
            committed = λ r lr. either (was r lr) (λ h. ok.committed r h) (λ (e : r ≡ A.finished). rw e commit);
            log_zero = λ c. log_old 0 c (omega arith) ∙ ok.log_zero c;
            held_zero = λ c. held_old 0 c (omega arith) ∙ ok.held_zero c;
            log_suc = λ r c lr lc.
                either (was r lr)
                (λ h. rw (log_old (suc r) c h, log_old r c (omega arith)) (ok.log_suc r c h lc))
                (λ (e : r ≡ A.finished). rw (e, log_old A.finished c (omega arith)) (log_new c));
            held_suc = λ r c lr lc.
                either (was r lr)
                (λ h. rw (held_old (suc r) c h, log_old (suc r) c h) (ok.held_suc r c h lc))
                (λ (e : r ≡ A.finished). rw e (held_new c));
          }

      pub end_invariant : Invariant E n k (end_block E n k s q b)
      unfolding end_block
      end_invariant =
          either (bool (ltb (suc b) k))
          (λ t. rw t
          (enter_step E n k s inv q l (visiting (suc b)) (λ _. refl) (λ _. refl) (λ _. rw is refl)
          (ltb-true (suc b) k t, λ c h. done c (omega arith), λ _. commit)))
          (λ f. rw f
          (rack_step E n k s q S settled_goes s.decided (λ r c p e. e) inv l
          (settled_invariant (ltb-false (suc b) k f))
          (still_offered E n k s q S settled_goes s.decided (λ r c p e. e) inv l)))
