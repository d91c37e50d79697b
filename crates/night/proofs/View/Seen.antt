-- A rack's state shows only what is the rack's own in the history. A turn of another rack leaves all of that.
use mathlib.Core.Path.{◌≡◌, refl, sym, ◌∙◌, subst}
use mathlib.Core.Logic.{◌≢◌}
use mathlib.Core.Option.{Option, none, some}
use Prim.Native.Nat.{ℕ, suc}
use lib.Dec.{ltb}
use Rattle.laws.proofs.Cases.{either, bool}
use Rattle.model.specs.declared.Size.{Size}
use Rattle.model.specs.declared.Rack as card
use Rattle.protocol.specs.AdoptCommit.{Marked}
use Rattle.protocol.specs.Layer.{written, read}
use Rattle.protocol.specs.Object.{Object, Move, step, taken}
use Rattle.protocol.specs.Edition.{result, news_of}
use Rattle.protocol.specs.FirstEdition.{first_edition}
use Rattle.protocol.specs.History.{Phase, offering, answering, visiting, Rack, History, Turn, enter, lane_now, proposal, settled, end_block, move}
use Rattle.protocol.specs.History.{is_done, visit, fits_answer, act, turn}
use Rattle.protocol.specs.Put.{put, put_at}
use Rattle.protocol.specs.Clock.{step_in}
use Rattle.protocol.proofs.Put.{put_other, put_at_all}
use Rattle.protocol.proofs.Object.{step_cases}
use Rattle.night.specs.View.{RackView}

-- the part of an object that is rack q's own, and the part of a history
abbrev pub slots_of : Object Marked → ℕ → Object Marked
slots_of o q = record { firsts = λ _. o.firsts q; seconds = λ _. o.seconds q }

abbrev pub own_part : History Marked → ℕ → History Marked
own_part h q = record { racks = λ _. h.racks q; objects = λ r lane. slots_of (h.objects r lane) q; decided = λ _ _. none }

module _ (s : Size) (q : ℕ) (r : card.Rack) where
  own_step : (objects : ℕ → ℕ → Object Marked) (r m : ℕ) (phase : Phase)
      → step_in s.racks (λ r lane. slots_of (objects r lane) q) q r m phase ≡ step_in s.racks objects q r m phase
  unfolding step_in taken
  own_step objects r m offering = refl
  own_step objects r m answering = refl
  own_step objects r m (visiting block) = refl

  own_view : (h : History Marked) → RackView s h q r → RackView s (own_part h q) q r
  unfolding taken result news_of
  own_view h v =
      record {
        in_range = v.in_range;
        round = v.round;
        step = v.step ∙ sym (own_step h.objects (h.racks q).finished ((h.racks q).first (h.racks q).finished) (h.racks q).phase);
        first = v.first;
        firsts = v.firsts;
        seconds = v.seconds;
        held = v.held;
        results = v.results;
        news = v.news;
      }

  view_own : (h : History Marked) → RackView s (own_part h q) q r → RackView s h q r
  unfolding taken result news_of
  view_own h v =
      record {
        in_range = v.in_range;
        round = v.round;
        step = v.step ∙ own_step h.objects (h.racks q).finished ((h.racks q).first (h.racks q).finished) (h.racks q).phase;
        first = v.first;
        firsts = v.firsts;
        seconds = v.seconds;
        held = v.held;
        results = v.results;
        news = v.news;
      }

  -- so it shows every history with the same part
  pub same_view : (h h' : History Marked) → own_part h q ≡ own_part h' q → RackView s h q r → RackView s h' q r
  same_view h h' e v = view_own h' (subst (λ (x : History Marked). RackView s x q r) e (own_view h v))

-- a rack that has its answer
abbrev pub won : Rack → ℕ → Rack
won a lane = record { finished = a.finished; phase = visiting 0; first = put a.first a.finished lane; log = a.log; held = a.held }

module _ (n k : ℕ) where
  same_slots : (o : Object Marked) (m : Move) (p : ℕ) → p ≢ m.rack → slots_of (step first_edition.make n o m) p ≡ slots_of o p
  same_slots o m p d =
      step_cases first_edition.make n (λ o'. slots_of o' p ≡ slots_of o p) o m
      (λ e i. record { firsts = λ _. put_other o.firsts m.rack (written m.proposal) p d i; seconds = λ _. o.seconds p })
      (λ x e f i. record {
        firsts = λ _. put_other o.firsts m.rack (read o.firsts (o.firsts m.rack)) p d i;
        seconds = λ _. o.seconds p;
      })
      (λ x e f g i. record {
        firsts = λ _. o.firsts p;
        seconds = λ _. put_other o.seconds m.rack (written (first_edition.make x (o.firsts m.rack).gathered)) p d i;
      })
      (λ x y e f g l i. record {
        firsts = λ _. o.firsts p;
        seconds = λ _. put_other o.seconds m.rack (read o.seconds (o.seconds m.rack)) p d i;
      })
      (λ x y e f g l. refl)

  same_objects : (h : History Marked) (q c p : ℕ) → p ≢ q → (r lane : ℕ)
      → slots_of ((move first_edition n k h q c).objects r lane) p ≡ slots_of (h.objects r lane) p
  same_objects h q c p d =
      put_at_all h.objects (h.racks q).finished c _ (λ r lane o. slots_of o p ≡ slots_of (h.objects r lane) p)
      (same_slots (h.objects (h.racks q).finished c) (record { rack = q; proposal = proposal h q (h.racks q).finished c }) p d)
      (λ r lane. refl)

  same_racks : (h : History Marked) (q : ℕ) (a : Rack) (decided : ℕ → ℕ → Option ℕ) (p : ℕ) → p ≢ q
      → own_part (record { racks = put h.racks q a; objects = h.objects; decided = decided }) p ≡ own_part h p
  same_racks h q a decided p d i =
      record { racks = λ _. put_other h.racks q a p d i; objects = λ r lane. slots_of (h.objects r lane) p; decided = λ _ _. none }

  same_end : (h : History Marked) (q block p : ℕ) → p ≢ q → own_part (end_block first_edition n k h q block) p ≡ own_part h p
  unfolding end_block
  same_end h q block p d =
      either (bool (ltb (suc block) k))
      (λ t. rw t (same_racks h q (enter (h.racks q) (visiting (suc block))) h.decided p d))
      (λ f. rw f (same_racks h q (settled first_edition h q (h.racks q)) h.decided p d))

  same_visit : (h : History Marked) (q block p : ℕ) → p ≢ q → own_part (visit first_edition n k h q block) p ≡ own_part h p
  same_visit h q block p d =
      let c = lane_now (h.racks q) block in
      let moved = move first_edition n k h q c in
      let same : own_part moved p ≡ own_part h p =
      λ i. record { racks = λ _. h.racks p; objects = λ r lane. same_objects h q c p d r lane i; decided = λ _ _. none }
      in
      either (bool (is_done first_edition n k moved q c))
      (λ t. rw t (same_end moved q block p d ∙ same))
      (λ f. rw f same)

  same_act : (h : History Marked) (t : Turn) (phase : Phase) (p : ℕ) → p ≢ t.rack → own_part (act first_edition n k h t phase) p ≡ own_part h p
  unfolding act
  same_act h t offering p d = same_racks h t.rack (enter (h.racks t.rack) answering) h.decided p d
  same_act h t answering p d =
      either (bool (fits_answer first_edition n k h (h.racks t.rack).finished t.lane t.source))
      (λ y. rw y (same_racks h t.rack (won (h.racks t.rack) t.lane)
      (put_at h.decided (h.racks t.rack).finished t.lane (some t.source)) p d))
      (λ f. rw f)
  same_act h t (visiting block) p d = same_visit h t.rack block p d

  pub same_part : (h : History Marked) (t : Turn) (p : ℕ) → p ≢ t.rack → own_part (turn first_edition n k h t) p ≡ own_part h p
  unfolding turn
  same_part h t p d =
      either (bool (ltb t.rack n))
      (λ y. rw y (same_act h t (h.racks t.rack).phase p d))
      (λ f. rw f)
