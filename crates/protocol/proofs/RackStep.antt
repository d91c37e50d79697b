-- A step that changes a rack, and perhaps decides a lane, but no object, keeps the invariant if the rack goes on and keeps its own part.
use mathlib.Core.Path.{◌≡◌, refl}
use mathlib.Core.Logic.{inl, inr}
use mathlib.Core.Bool.{true}
use mathlib.Core.Option.{Option, some}
use Prim.Native.Nat.{ℕ, ◌<◌}
use Rattle.laws.proofs.Cases.{either}
use Rattle.protocol.specs.Put.{put}
use Rattle.protocol.specs.Edition.{Edition}
use Rattle.protocol.specs.History.{Phase, Rack, enter, past_offer, past_answer, has_offered, History, with_rack}
use Rattle.protocol.proofs.Put.{put_all}
use Rattle.protocol.proofs.Invariant.{past_later, Goes, goes_refl, InPhase, RackInvariant, Invariant, Grows, commit_stays}
use Rattle.protocol.proofs.Invariant.{rack_stays, proposed_stays, first_lane_stays}

-- a rack that enters another phase of its round
pub enter_goes : (a : Rack) (phase : Phase) → (past_offer a.phase ≡ true → past_offer phase ≡ true)
    → (past_answer a.phase ≡ true → past_answer phase ≡ true) → Goes a (enter a phase)
enter_goes a phase f g =
    record {
      same_held = λ r c l. refl;
      same_first = λ r e. refl;
      still_offered = λ r. past_later a.finished r _ _ f;
      still_answered = λ r. past_later a.finished r _ _ g;
    }

module _ (E : Edition) (n k : ℕ) where
  -- a step that changes rack q, and perhaps decides a lane, but no object
  module _ (s : History E.Second) (q : ℕ) (a : Rack) (go : Goes (s.racks q) a)
      (decided : ℕ → ℕ → Option ℕ) (keeps : (r c p : ℕ) → s.decided r c ≡ some p → decided r c ≡ some p) where
    abbrev pub s' : History E.Second
    s' = record { racks = put s.racks q a; objects = s.objects; decided = decided }

    pub rack_grows : Grows E n k s s'
    rack_grows =
        record {
          racks_go = put_all s.racks q a (λ p b. Goes (s.racks p) b) go (λ p _. goes_refl (s.racks p));
          objects_stay = λ r c p lp d. record { done = d; result_stays = refl; news_stays = refl };
          decided_stays = keeps;
        }

    module _ (inv : Invariant E n k s) (l : q < n) where
      pub still_offered : (r c p : ℕ) → s.decided r c ≡ some p → (p < n) × (has_offered (s'.racks p) r ≡ true)
      still_offered r c p e = let h = inv.decided_offered r c p e in (h.0, (rack_grows.racks_go p).still_offered r h.1)

      pub rack_step : RackInvariant E n k s' q a → ((r c p : ℕ) → decided r c ≡ some p → (p < n) × (has_offered (s'.racks p) r ≡ true))
          → Invariant E n k s'
      rack_step ok offered =
          record {
            consistent = inv.consistent;
            rack_invariant = put_all s.racks q a (λ p b. p < n → RackInvariant E n k s' p b)
                (λ _. ok)
                (λ p _ lp. rack_stays E n k s s' rack_grows p lp (s.racks p) (inv.rack_invariant p lp));
            decided_offered = offered;
            proposed = proposed_stays E n k s s' rack_grows inv;
            first_finisher = λ r.
                either (inv.first_finisher r)
                (λ c. inl (commit_stays E n k s s' rack_grows r c))
                (λ f. inr (λ c i x e. first_lane_stays E n k s s' rack_grows inv r c i x e (f c i x e)));
          }

  -- the invariant of a rack that enters another phase
  entered : (s : History E.Second) (q : ℕ) (a : Rack) (phase : Phase) → RackInvariant E n k s q a
      → InPhase E n k s.objects q a.finished (a.first a.finished) phase → (past_answer phase ≡ true → past_answer a.phase ≡ true)
      → RackInvariant E n k s q (enter a phase)
  entered s q a phase ok i f =
      record {
        in_phase = i;
        answered = λ r e. ok.answered r (past_later a.finished r _ _ f e);
        ended = ok.ended;
        committed = ok.committed;
        log_zero = ok.log_zero;
        held_zero = ok.held_zero;
        log_suc = ok.log_suc;
        held_suc = ok.held_suc;
      }

  -- a rack that enters another phase of its round
  pub enter_step : (s : History E.Second) → Invariant E n k s → (q : ℕ) → q < n → (phase : Phase)
      → (past_offer (s.racks q).phase ≡ true → past_offer phase ≡ true)
      → (past_answer (s.racks q).phase ≡ true → past_answer phase ≡ true)
      → (past_answer phase ≡ true → past_answer (s.racks q).phase ≡ true)
      → InPhase E n k s.objects q (s.racks q).finished ((s.racks q).first (s.racks q).finished) phase
      → Invariant E n k (with_rack s q (enter (s.racks q) phase))
  enter_step s inv q l phase f g h i =
      let a = s.racks q in
      let go = enter_goes a phase f g in
      let keeps : (r c p : ℕ) → s.decided r c ≡ some p → s.decided r c ≡ some p = λ r c p e. e in
      let grows = rack_grows s q (enter a phase) go s.decided keeps in
      rack_step s q (enter a phase) go s.decided keeps inv l
      (entered _ q a phase (rack_stays E n k s _ grows q l a (inv.rack_invariant q l)) i h)
      (still_offered s q (enter a phase) go s.decided keeps inv l)
