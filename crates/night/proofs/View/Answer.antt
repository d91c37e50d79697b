-- "Step 1, answer": a reply that the card admits is one that the history accepts, and the card after it shows the history after the turn.
use mathlib.Core.Path.{◌≡◌, sym, ap, ◌∙◌}
use mathlib.Core.Logic.{◌⊎◌, inl, inr, ◌≢◌}
use mathlib.Core.Bool.{true, false}
use mathlib.Core.List.{List}
use mathlib.Core.Option.{Option, some}
use Prim.Native.Nat.{ℕ, suc, ◌<◌}
use native.Mathlib.Omega.{arith}
use borrow.Author.Tests.{lt-ltb, eq-eqb}
use lib.ListN.{length, set}
use lib.Seq.{get_or-set_same, get_or-set_other}
use Rattle.laws.proofs.Cases.{either, bool, option, eq_or_ne, true_and, clash_bool}
use Rattle.model.specs.declared.Size.{Size}
use Rattle.model.specs.declared.Rack as card
use Rattle.model.specs.declared.Kind.TheVariants.{Answer}
use Rattle.model.specs.Record.{no_cell, is_empty}
use Rattle.model.specs.Table.{Tables, offers, read_cell, undecided, decision_index, decision_at}
use Rattle.model.specs.Kind.{lane_at, lane_of}
use Rattle.model.specs.Step.{winning, answered, step_by}
use Rattle.model.proofs.Table.{decision_fits, decision_lane, decision_round}
use Rattle.steady.proofs.Kept.{Ready}
use Rattle.protocol.specs.AdoptCommit.{Marked}
use Rattle.protocol.specs.Put.{put, put_at}
use Rattle.protocol.specs.Object.{taken}
use Rattle.protocol.specs.FirstEdition.{first_edition}
use Rattle.protocol.specs.History as protocol
use Rattle.protocol.specs.History.{answering, Rack, History, Turn, has_offered, free_for, fits_answer, act}
use Rattle.protocol.specs.Clock.{step_in, accepts_in, accepts}
use Rattle.protocol.proofs.Put.{put_same, put_at_same, put_at_lane, put_at_round}
use Rattle.protocol.proofs.Invariant.{Invariant}
use Rattle.protocol.proofs.Placed.{Clocked}
use Rattle.night.specs.View.{source_of, RackView}
use Rattle.night.proofs.View.Seen.{won}
use Rattle.night.proofs.View.Standing.{is_answering}
use Rattle.night.proofs.View.Tables.{TablesView, AfterView}
use Rattle.night.proofs.View.RackChange.{racked, all_racks, rack_changed, tables_changed}
use Rattle.night.proofs.View.Leading.{leading_firsts, leading_seconds}

module _ (s : Size) (t : Tables) (h : History Marked) (move : Turn) (r : card.Rack) (ready : Ready s t move.rack r)
    (inv : Invariant first_edition s.racks s.lanes h) (clocked : Clocked first_edition s.racks s.lanes h)
    (tables : TablesView s t h) (v : RackView s h move.rack r) (one : r.step ≡ 1)
    (lane_there : move.lane < s.lanes) (source_there : move.source < s.racks)
    (offer : is_empty (read_cell s t.cells offers r.round move.lane move.source) ≡ false)
    (free : (decision_at s t.decisions r.round move.lane ≡ undecided) ⊎ (decision_at s t.decisions r.round move.lane ≡ move.source)) where
  abbrev q : ℕ
  q = move.rack

  abbrev fin : ℕ
  fin = (h.racks q).finished

  abbrev m : ℕ
  m = move.lane

  abbrev p : ℕ
  p = move.source

  is : (h.racks q).phase ≡ answering
  is = is_answering s h q r v one

  round_there : fin < s.rounds
  round_there = let e = v.round in let g = ready.current in omega arith

  -- "that source has no offer in this round at that lane": it has
  has_offered_is : has_offered (h.racks p) fin ≡ true
  has_offered_is =
      either (bool (has_offered (h.racks p) fin))
      (λ e. e)
      (λ e.
      let nothing : read_cell s t.cells offers r.round m p ≡ no_cell =
      ap (λ (x : ℕ). read_cell s t.cells offers x m p) v.round ∙ tables.offers_shown fin m p round_there lane_there source_there ∙ rw e
      in
      clash_bool (ap is_empty nothing) offer)

  -- "the lane is decided for another source": it is not
  is_free : free_for (h.decided fin m) p ≡ true
  is_free =
      let shown : decision_at s t.decisions r.round m ≡ source_of (h.decided fin m) =
      ap (λ (x : ℕ). decision_at s t.decisions x m) v.round ∙ tables.decisions_shown fin m round_there lane_there
      in
      either (option (h.decided fin m))
      (λ e. rw e)
      (λ d.
      let small = (inv.decided_offered fin m d.0 d.1).0 in
      let eight = ready.sizes.racks_high in
      let is-source : decision_at s t.decisions r.round m ≡ d.0 = shown ∙ rw d.1 in
      rw d.1
      (either free
      (λ u. absurd (omega arith))
      (λ u. eq-eqb d.0 p (sym is-source ∙ u))))

  fits : fits_answer first_edition s.racks s.lanes h fin m p ≡ true
  fits = true_and (lt-ltb m s.lanes lane_there) (true_and (lt-ltb p s.racks source_there) (true_and has_offered_is is_free))

  pub answer_accepted : accepts first_edition s.racks s.lanes h move ≡ true
  unfolding accepts accepts_in
  answer_accepted = true_and (lt-ltb q s.racks ready.there) (rw is fits)

  abbrev a' : Rack
  a' = won (h.racks q) m

  abbrev decided' : ℕ → ℕ → Option ℕ
  decided' = put_at h.decided fin m (some p)

  abbrev index : ℕ
  index = decision_index s (suc fin) m

  abbrev decisions : List ℕ
  decisions = set t.decisions index p

  abbrev after : Tables
  after = record { cells = t.cells; logs = t.logs; decisions = decisions }

  decision_else : (round lane : ℕ) → round < s.rounds → lane < s.lanes → (round ≢ fin) ⊎ (lane ≢ m)
      → decision_at s decisions (suc round) lane ≡ source_of (h.decided round lane)
  decision_else round lane b l d =
      get_or-set_other t.decisions index (decision_index s (suc round) lane) p 0
      (λ e. either d
      (λ x. let f = decision_round s (suc round) lane (suc fin) m (omega arith) (omega arith) l lane_there e in x (omega arith))
      (λ x. x (decision_lane s (suc round) lane (suc fin) m l lane_there e)))
      ∙ tables.decisions_shown round lane b l

  decisions_shown : (round lane : ℕ) → round < s.rounds → lane < s.lanes → decision_at s decisions (suc round) lane ≡ source_of (decided' round lane)
  decisions_shown round lane b l =
      either (eq_or_ne round fin)
      (λ (e : round ≡ fin). either (eq_or_ne lane m)
      (λ (f : lane ≡ m).
      let room : index < length t.decisions =
      rw ready.tables.exact.decisions (decision_fits s (suc fin) m (omega arith) round_there lane_there)
      in
      rw (e, f, put_at_same h.decided fin m (some p)) (get_or-set_same t.decisions index p 0 room))
      (λ (d : lane ≢ m). rw (put_at_lane h.decided fin m (some p) round lane d) (decision_else round lane b l (inr d))))
      (λ (d : round ≢ fin). rw (put_at_round h.decided fin m (some p) round lane d) (decision_else round lane b l (inl d)))

  answer_tables : TablesView s after (racked h q a' decided')
  answer_tables =
      tables_changed s h q a' decided' after
      (λ round lane b l. rw is at (tables.offers_shown round lane q b l ready.there))
      (λ round lane p n b l u. tables.offers_shown round lane p b l u)
      (λ lane l. tables.logs_shown q lane ready.there l)
      (λ p lane n u l. tables.logs_shown p lane u l)
      tables.firsts_shown tables.seconds_shown decisions_shown

  not_begun : (lane : ℕ) → taken (h.objects fin lane) q ≡ 0
  not_begun = rw is at (clocked q ready.there).now

  answer_rack : RackView s (all_racks h a') q (winning r m)
  unfolding step_in
  answer_rack =
      let none_taken = not_begun (lane_of (put (h.racks q).first fin m fin) 0) in
      record {
        in_range = v.in_range;
        round = v.round;
        step = omega arith;
        first = sym (put_same (h.racks q).first fin m);
        firsts = leading_firsts s h q r inv v not_begun (lane_at s (winning r m));
        seconds = leading_seconds s h q r inv v not_begun (lane_at s (winning r m));
        held = v.held;
        results = v.results;
        news = v.news;
      }

  pub answer_view : AfterView s move.rack (step_by s t move.rack r Answer move.lane move.source)
      (protocol.turn first_edition s.racks s.lanes h move)
  unfolding step_by answered protocol.turn act
  answer_view =
      let at : decision_index s r.round m ≡ index = ap (λ (x : ℕ). decision_index s x m) v.round in
      rw (lt-ltb q s.racks ready.there, is, fits, at)
      (record { tables = answer_tables; rack = rack_changed s h q a' decided' (winning r m) answer_rack })
