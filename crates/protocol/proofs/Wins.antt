-- What a rack wins lasts: the lane is its first one of that round and decided for one source, and what that source offered there stays.
use mathlib.Core.Path.{◌≡◌, sym, ap, ◌∙◌}
use mathlib.Core.Bool.{true}
use mathlib.Core.Option.{some}
use mathlib.Core.List.{List}
use Prim.Native.Nat.{ℕ, ◌<◌}
use borrow.Author.Tests.{lt-ltb}
use Rattle.model.specs.declared.Value.{Value}
use Rattle.protocol.specs.Edition.{Edition, Lawful}
use Rattle.protocol.specs.History.{answering, Rack, has_offered, has_answer, History, Turn, offer_of, fits_answer, act, turn, after}
use Rattle.protocol.proofs.Put.{put_same, put_at_same}
use Rattle.protocol.proofs.Invariant.{past_now, past_reached, Invariant, Grows}
use Rattle.protocol.proofs.Answer.{won, source_offered, answer_grows}
use Rattle.protocol.proofs.Turn.{first_proposal}
use Rattle.protocol.proofs.Lasting.{after_lasts}

-- rack q has won lane m of round r from source p, which offered v there
pub record Wins {Y : Type 0} (s : History Y) (q r m p : ℕ) (v : Value) : Type 0 where
  pub has_answer_is : has_answer (s.racks q) r ≡ true
  pub first_lane : (s.racks q).first r ≡ m
  pub is_decided : s.decided r m ≡ some p
  pub has_offered_is : has_offered (s.racks p) r ≡ true
  pub value : (s.racks p).held r m ≡ v

module _ (E : Edition) (n k : ℕ) where
  module _ (q r m p : ℕ) (v : Value) where
    wins_grown : (s s' : History E.Second) → Grows E n k s s' → Wins s q r m p v → Wins s' q r m p v
    wins_grown s s' g w =
        let mine = g.racks_go q in
        let source = g.racks_go p in
        record {
          has_answer_is = mine.still_answered r w.has_answer_is;
          first_lane = mine.same_first r w.has_answer_is ∙ w.first_lane;
          is_decided = g.decided_stays r m p w.is_decided;
          has_offered_is = source.still_offered r w.has_offered_is;
          value = source.same_held r m (past_reached (s.racks p).finished r _ w.has_offered_is) ∙ w.value;
        }

    pub wins_last : Lawful E → (s : History E.Second) (ts : List Turn) → Invariant E n k s → Wins s q r m p v → Wins (after E n k s ts) q r m p v
    wins_last = after_lasts E n k (λ s. Wins s q r m p v) wins_grown

    -- "The value offered by q at m is what this rack proposes in m."
    pub wins_proposes : (s : History E.Second) → Invariant E n k s → Wins s q r m p v → (x : Value) → ((s.objects r m).firsts q).cell ≡ some x → x ≡ v
    wins_proposes s inv w x e =
        (inv.proposed r m q x e).2
        ∙ first_proposal s q r m (sym w.first_lane)
        ∙ ap (offer_of s.racks r m) w.is_decided
        ∙ w.value

  -- an answer that fits
  pub answer_wins : (s : History E.Second) → Invariant E n k s → (t : Turn) → t.rack < n → (s.racks t.rack).phase ≡ answering
      → fits_answer E n k s (s.racks t.rack).finished t.lane t.source ≡ true
      → Wins (turn E n k s t) t.rack (s.racks t.rack).finished t.lane t.source
      ((s.racks t.source).held (s.racks t.rack).finished t.lane)
  unfolding turn act
  answer_wins s inv t l is fits =
      let q = t.rack in
      let r = (s.racks q).finished in
      let go = (answer_grows E n k s inv q l is t.lane t.source fits).racks_go t.source in
      let offered = source_offered E n k s inv q l is t.lane t.source fits in
      let mine = put_same s.racks q (won E n k s inv q l is t.lane t.source fits) in
      rw (lt-ltb q n l, is, fits)
      (record {
        has_answer_is = ap (λ (a : Rack). has_answer a r) mine ∙ past_now r;
        first_lane = ap (λ (a : Rack). a.first r) mine ∙ put_same (s.racks q).first r t.lane;
        is_decided = put_at_same s.decided r t.lane (some t.source);
        has_offered_is = go.still_offered r offered;
        value = go.same_held r t.lane (past_reached (s.racks t.source).finished r _ offered);
      })
