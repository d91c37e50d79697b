-- What a turn of the history does to an object: a step in it, or nothing. What lasts when a history grows lasts after any turns: so the
-- result and the news of a rack that is done.
use mathlib.Core.Path.{◌≡◌, refl, ◌∙◌, subst}
use mathlib.Core.Bool.{true, false}
use mathlib.Core.List.{List, [], ◌∷◌}
use mathlib.Core.Option.{some}
use Prim.Native.Nat.{ℕ, suc, ◌≤◌, ◌<◌}
use borrow.Author.Tests.{ltb-true, lt-ltb, le-ltb, eq-eqb}
use lib.Dec.{ltb}
use Rattle.laws.proofs.Cases.{bool, either, clash_bool}
use Rattle.protocol.specs.Object.{Done}
use Rattle.protocol.specs.Edition.{Edition, Lawful}
use Rattle.protocol.specs.History.{Phase, offering, answering, visiting, History, Turn, enter, lane_now, past_answer, has_answer, settled, end_block, move, is_done, visit}
use Rattle.protocol.specs.History.{fits_answer, act, turn, after}
use Rattle.protocol.proofs.Put.{put_same}
use Rattle.protocol.proofs.AdoptCommit.{Stays}
use Rattle.protocol.proofs.Invariant.{past_now, Invariant, Grows}
use Rattle.protocol.proofs.RackStep.{enter_goes, rack_grows}
use Rattle.protocol.proofs.Move.{move_grows}
use Rattle.protocol.proofs.EndBlock.{settled_goes}
use Rattle.protocol.proofs.Answer.{answer_grows}
use Rattle.protocol.proofs.Turn.{turn_invariant}

module _ (E : Edition) (n k : ℕ) where
  -- the end of a block changes no object
  end_objects : (s : History E.Second) (q b : ℕ) → (end_block E n k s q b).objects ≡ s.objects
  unfolding end_block
  end_objects s q b = either (bool (ltb (suc b) k)) (λ t. rw t) (λ f. rw f)

  visit_objects : (s : History E.Second) (q b : ℕ) → (visit E n k s q b).objects ≡ (move E n k s q (lane_now (s.racks q) b)).objects
  visit_objects s q b =
      let c = lane_now (s.racks q) b in
      either (bool (is_done E n k (move E n k s q c) q c))
      (λ t. rw t (end_objects (move E n k s q c) q b))
      (λ f. rw f)

  -- a turn of a rack in its block b
  pub turn_moves : (s : History E.Second) (t : Turn) (q b : ℕ) → t.rack ≡ q → q < n → (s.racks q).phase ≡ visiting b
      → (turn E n k s t).objects ≡ (move E n k s q (lane_now (s.racks q) b)).objects
  unfolding turn act
  turn_moves s t q b e =
      subst (λ (p : ℕ). p < n → (s.racks p).phase ≡ visiting b → (turn E n k s t).objects ≡ (move E n k s p (lane_now (s.racks p) b)).objects)
      e in_block
    where
      in_block : t.rack < n → (s.racks t.rack).phase ≡ visiting b
          → (turn E n k s t).objects ≡ (move E n k s t.rack (lane_now (s.racks t.rack) b)).objects
      in_block l is = rw (lt-ltb t.rack n l, is) (visit_objects s t.rack b)

  -- and of one that has no answer yet
  act_still : (s : History E.Second) (t : Turn) (phase : Phase) → past_answer phase ≡ false → (act E n k s t phase).objects ≡ s.objects
  unfolding act
  act_still s t offering e = refl
  act_still s t answering e =
      either (bool (fits_answer E n k s (s.racks t.rack).finished t.lane t.source)) (λ y. rw y) (λ f. rw f)
  act_still s t (visiting b) e = clash_bool refl e

  pub turn_still : (s : History E.Second) (t : Turn) → past_answer (s.racks t.rack).phase ≡ false → (turn E n k s t).objects ≡ s.objects
  unfolding turn
  turn_still s t e =
      either (bool (ltb t.rack n)) (λ y. rw y (act_still s t (s.racks t.rack).phase e)) (λ f. rw f)

  -- the turn that ends its last block settles every lane
  pub turn_settles : (s : History E.Second) (t : Turn) (b : ℕ) → t.rack < n → (s.racks t.rack).phase ≡ visiting b → k ≤ suc b
      → let c = lane_now (s.racks t.rack) b in
      let s₁ = move E n k s t.rack c in
      Done n (s₁.objects (s.racks t.rack).finished c) t.rack
      → (turn E n k s t).racks t.rack ≡ settled E s₁ t.rack (s.racks t.rack)
  unfolding turn act end_block
  turn_settles s t b l is last d =
      let c = lane_now (s.racks t.rack) b in
      let s₁ = move E n k s t.rack c in
      let done : is_done E n k s₁ t.rack c ≡ true = eq-eqb _ n d in
      rw (lt-ltb t.rack n l, is, done, le-ltb (suc b) k last) (put_same s.racks t.rack (settled E s₁ t.rack (s.racks t.rack)))

  -- what lasts when a history grows lasts after any turns
  module _ (P : History E.Second → Type 0) (lasts : (s s' : History E.Second) → Grows E n k s s' → P s → P s') where
    end_lasts : (s : History E.Second) (q b : ℕ) → P s → P (end_block E n k s q b)
    unfolding end_block
    end_lasts s q b h =
        let same : (r c p : ℕ) → s.decided r c ≡ some p → s.decided r c ≡ some p = λ r c p e. e in
        either (bool (ltb (suc b) k))
        (λ t. rw t
        (lasts s _
        (rack_grows E n k s q (enter (s.racks q) (visiting (suc b))) (enter_goes (s.racks q) (visiting (suc b)) (λ _. refl) (λ _. refl)) s.decided same)
        h))
        (λ f. rw f (lasts s _ (rack_grows E n k s q (settled E s q (s.racks q)) (settled_goes E n k s q) s.decided same) h))

    visit_lasts : (s : History E.Second) → Invariant E n k s → (q : ℕ) → q < n → (b : ℕ) → (s.racks q).phase ≡ visiting b → P s
        → P (visit E n k s q b)
    visit_lasts s inv q l b is h =
        let c = lane_now (s.racks q) b in
        let s₁ = move E n k s q c in
        let has : has_answer (s.racks q) (s.racks q).finished ≡ true = rw is (past_now (s.racks q).finished) in
        let moved = lasts s s₁ (move_grows E n k s inv q l c has) h in
        either (bool (is_done E n k s₁ q c)) (λ t. rw t (end_lasts s₁ q b moved)) (λ f. rw f moved)

    act_lasts : (s : History E.Second) → Invariant E n k s → (t : Turn) → t.rack < n → (phase : Phase) → (s.racks t.rack).phase ≡ phase → P s
        → P (act E n k s t phase)
    unfolding act
    act_lasts s inv t l offering is h =
        let a = s.racks t.rack in
        lasts s _
        (rack_grows E n k s t.rack (enter a answering) (enter_goes a answering (λ _. refl) (λ e. clash_bool e (rw is refl))) s.decided (λ r c p e. e))
        h
    act_lasts s inv t l answering is h =
        either (bool (fits_answer E n k s (s.racks t.rack).finished t.lane t.source))
        (λ y. rw y (lasts s _ (answer_grows E n k s inv t.rack l is t.lane t.source y) h))
        (λ f. rw f h)
    act_lasts s inv t l (visiting b) is h = visit_lasts s inv t.rack l b is h

    turn_lasts : (s : History E.Second) → Invariant E n k s → (t : Turn) → P s → P (turn E n k s t)
    unfolding turn
    turn_lasts s inv t h =
        either (bool (ltb t.rack n))
        (λ y. rw y (act_lasts s inv t (ltb-true t.rack n y) (s.racks t.rack).phase refl h))
        (λ f. rw f h)

    pub after_lasts : Lawful E → (s : History E.Second) (ts : List Turn) → Invariant E n k s → P s → P (after E n k s ts)
    unfolding after
    after_lasts W s [] inv h = h
    after_lasts W s (t ∷ ts) inv h = after_lasts W (turn E n k s t) ts (turn_invariant E W n k s t inv) (turn_lasts s inv t h)

  -- a result and the news of a rack that is done
  pub after_stays : Lawful E → (r c q : ℕ) → q < n → (s : History E.Second) (ts : List Turn) → Invariant E n k s → Done n (s.objects r c) q
      → Stays E n (s.objects r c) ((after E n k s ts).objects r c) q
  after_stays W r c q l s ts inv d =
      after_lasts (λ s'. Stays E n (s.objects r c) (s'.objects r c) q)
      (λ s₁ s₂ g one.
      let more = g.objects_stay r c q l one.done in
      record {
        done = more.done;
        result_stays = more.result_stays ∙ one.result_stays;
        news_stays = more.news_stays ∙ one.news_stays;
      })
      W s ts inv (record { done = d; result_stays = refl; news_stays = refl })
