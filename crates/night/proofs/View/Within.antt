-- A rack one step on in its block: what it shows of the history, whatever it wrote or read.
use mathlib.Core.Path.{◌≡◌, ap, ◌∙◌}
use mathlib.Core.Logic.{◌≢◌}
use mathlib.Core.List.{List}
use mathlib.Core.Option.{none}
use Prim.Native.Nat.{ℕ, suc, ◌+◌, ◌<◌}
use native.Mathlib.Omega.{arith}
use borrow.Author.Tests.{ne_eqb}
use lib.ListN.{get_or}
use Rattle.laws.proofs.Cases.{either, eq_or_ne}
use Rattle.model.specs.declared.Size.{Size}
use Rattle.model.specs.declared.Cell.{Cell}
use Rattle.model.specs.declared.Rack as card
use Rattle.model.specs.Size.{block_steps}
use Rattle.model.specs.Record.{no_value, no_cell}
use Rattle.model.specs.Table.{result_at, news_at}
use Rattle.model.specs.Kind.{lane_of, lane_at}
use Rattle.protocol.specs.AdoptCommit.{Marked}
use Rattle.protocol.specs.Object.{Object, taken}
use Rattle.protocol.specs.FirstEdition.{first_edition}
use Rattle.protocol.specs.History.{History, Turn}
use Rattle.protocol.specs.Clock.{step_in}
use Rattle.protocol.proofs.Put.{put_at_lane}
use Rattle.protocol.proofs.Invariant.{Invariant}
use Rattle.model.proofs.Place.{stands_block, stands_on}
use Rattle.steady.proofs.Onward.{onward}
use Rattle.night.specs.View.{first_of, second_of, RackView}
use Rattle.night.proofs.View.Standing.{Visiting}
use Rattle.night.proofs.View.Moves.{r₀, c₀, old, new, moved, one_more, is_new}

module _ (s : Size) (h : History Marked) (t : Turn) (r : card.Rack) (inv : Invariant first_edition s.racks s.lanes h)
    (there : t.rack < s.racks) (w : Visiting s h t.rack r) (v : RackView s h t.rack r) where
  abbrev q : ℕ
  q = t.rack

  abbrev fin : ℕ
  fin = r₀ s h t r inv there w

  abbrev c : ℕ
  c = c₀ s h t r inv there w

  abbrev before : Object Marked
  before = old s h t r inv there w

  abbrev after : Object Marked
  after = new s h t r inv there w

  abbrev h₁ : History Marked
  h₁ = moved s h t r inv there w

  -- the object at work, and each other
  pub here_new : h₁.objects fin c ≡ after
  here_new = is_new s h t r inv there w

  pub else_old : (lane : ℕ) → lane ≢ c → h₁.objects fin lane ≡ h.objects fin lane
  else_old lane d = put_at_lane h.objects fin c after fin lane d

  module _ (more : suc (taken before q) < block_steps s) (firsts seconds : List Cell) where
    abbrev next : card.Rack
    next = onward r firsts seconds r.results r.news

    lane_next : lane_at s next ≡ c
    lane_next =
        let at = stands_on s r.step w.block (taken before q) w.at (omega arith) in
        λ i. lane_of (w.first_is i) (stands_block s (r.step + 1) w.block (taken before q + 1) at i)

    not_all : taken before q ≢ block_steps s
    not_all e = omega arith

    still_not : taken after q ≢ block_steps s
    still_not e = let f = one_more s h t r inv there w in omega arith

    pub within_view : ((i : ℕ) → i < 8 → get_or firsts i no_cell ≡ first_of (get_or (after.firsts q).gathered i none))
        → ((i : ℕ) → i < 8 → get_or seconds i no_cell ≡ second_of (get_or (after.seconds q).gathered i none))
        → RackView s h₁ q next
    unfolding step_in block_steps
    within_view f g =
        let e : taken (h₁.objects fin c) q ≡ suc (taken before q) =
        ap (λ (o : Object Marked). taken o q) here_new ∙ one_more s h t r inv there w
        in
        let counted = w.at.counted in
        record {
          in_range = v.in_range;
          round = v.round;
          step = rw w.is (omega arith);
          first = v.first;
          firsts = λ i l. rw (lane_next, here_new) (f i l);
          seconds = λ i l. rw (lane_next, here_new) (g i l);
          held = v.held;
          results =
              λ lane l.
              either (eq_or_ne lane c)
              (λ (e : lane ≡ c).
              let none_yet : result_at r c ≡ no_cell = rw (ne_eqb (taken before q) (block_steps s) not_all) at (v.results c (rw (← e) l)) in
              rw (e, here_new, ne_eqb (taken after q) (block_steps s) still_not) none_yet)
              (λ (d : lane ≢ c). rw (else_old lane d) (v.results lane l));
          news =
              λ lane l.
              either (eq_or_ne lane c)
              (λ (e : lane ≡ c).
              let none_yet : news_at r c ≡ no_value = rw (ne_eqb (taken before q) (block_steps s) not_all) at (v.news c (rw (← e) l)) in
              rw (e, here_new, ne_eqb (taken after q) (block_steps s) still_not) none_yet)
              (λ (d : lane ≢ c). rw (else_old lane d) (v.news lane l));
        }
