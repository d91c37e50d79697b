-- "An arbiter reply is admitted exactly when it fits k-vector consensus with one source to a lane": what the refusals leave of an answer.
use mathlib.Core.Path.{◌≡◌, refl, ◌∙◌}
use mathlib.Core.Logic.{◌⊎◌, ◌↔◌}
use mathlib.Core.Bool.{Bool, true, false, cond, not, ◌&&◌}
use mathlib.Core.List.{List, [], ◌∷◌}
use Prim.Native.Nat.{ℕ, ◌+◌, ◌≤◌, ◌<◌}
use native.Mathlib.Omega.{arith}
use borrow.Author.Tests.{eq-eqb, ne_eqb, lt-leb, le-ltb}
use lib.Dec.{eqb}
use Rattle.laws.proofs.Cases.{either}
use Rattle.model.specs.declared.Size.{Size}
use Rattle.model.specs.declared.Rack.{Rack}
use Rattle.model.specs.Size.{round_steps}
use Rattle.model.specs.Record.{is_empty}
use Rattle.model.specs.Table.{Card, offers, read_cell, undecided, decision_at, rack_at}
use Rattle.model.specs.Step.{is_last}
use Rattle.model.specs.Turn.{bad_record, rack_of, lane_named, source_named, finished, misnamed, not_offered, decided_else, overfull, refusal_of, refusal, turned}
use Rattle.model.proofs.Sizes.{sizes, fits_size}
use Rattle.model.proofs.Place.{block_long}
use Rattle.steady.proofs.Leading.{round_long}
use Rattle.steady.proofs.Refusals.{allowed, lane_named_is, source_named_is, has_offer, lane_free}
use Rattle.steady.proofs.Turn.{Steady}
use Rattle.night.specs.Demands.{Fits}

-- a steady card refuses for the turn alone
pub steady_number : (s : Size) (c : Card) → Steady s c → (t : List ℕ)
    → (turned s c t).number
    ≡ cond (bad_record s t) 3 (refusal_of s c.tables (rack_of t) (rack_at c.racks (rack_of t)) (lane_named t) (source_named t))
unfolding turned refusal
steady_number s c h t = rw (h.fit, h.ok)

module _ (s : Size) (c : Card) (steady : Steady s c) (rack lane source : ℕ) (there : rack < s.racks) where
  abbrev r : Rack
  r = rack_at c.racks rack

  abbrev reply : List ℕ
  reply = rack ∷ lane ∷ source ∷ 0 ∷ []

  good_record : bad_record s reply ≡ false
  unfolding bad_record
  good_record = lt-leb s.racks rack there

  reply_number : (turned s c reply).number ≡ refusal_of s c.tables rack r lane source
  reply_number = steady_number s c steady reply ∙ rw good_record

  module _ (current : r.round ≤ s.rounds) (answer : r.step ≡ 1) where
    admitted_fits : (turned s c reply).number ≡ 0 → Fits s c rack lane source
    admitted_fits e =
        let a = allowed s c.tables rack r lane source (rw reply_number at e) in
        record {
          lane_there = lane_named_is s c.tables rack r lane source a answer;
          source_there = source_named_is s c.tables rack r lane source a answer;
          is_offered = has_offer s c.tables rack r lane source a answer;
          one_source = lane_free s c.tables rack r lane source a answer;
        }

    is_answer_is : eqb r.step 1 ≡ true
    is_answer_is = eq-eqb r.step 1 answer

    not_finished : finished s r ≡ false
    unfolding finished
    not_finished = le-ltb s.rounds r.round current

    well_named : lane < s.lanes → source < s.racks → misnamed s r lane source ≡ false
    unfolding misnamed
    well_named h g = rw (is_answer_is, lt-leb s.lanes lane h) (lt-leb s.racks source g)

    was_offered : is_empty (read_cell s c.tables.cells offers r.round lane source) ≡ false
        → not_offered s r c.tables.cells lane source ≡ false
    unfolding not_offered
    was_offered h = rw is_answer_is h

    not_else : let decision = decision_at s c.tables.decisions r.round lane in (decision ≡ undecided) ⊎ (decision ≡ source)
        → decided_else s r c.tables.decisions lane source ≡ false
    unfolding decided_else
    not_else h =
        let decision = decision_at s c.tables.decisions r.round lane in
        rw is_answer_is
        (either h
        (λ f. rw (eq-eqb decision undecided f))
        (λ f. rw (eq-eqb decision source f) (and_false_right (not (eqb decision undecided)))))
      where
        and_false_right : (b : Bool) → b && false ≡ false
        and_false_right true = refl
        and_false_right false = refl

    not_last : overfull s c.tables rack r ≡ false
    unfolding overfull is_last
    not_last =
        let k = (sizes s (fits_size s c.tables steady.fit)).lanes_low in
        rw (ne_eqb (r.step + 1) (round_steps s) (λ e. omega (arith, round_long s k, block_long s)))

    fits_admitted : Fits s c rack lane source → (turned s c reply).number ≡ 0
    unfolding refusal_of
    fits_admitted f =
        reply_number
        ∙ rw (
          not_finished,
          well_named f.lane_there f.source_there,
          was_offered f.is_offered,
          not_else f.one_source,
          not_last,
        )

    pub reply_admitted : ((turned s c reply).number ≡ 0) ↔ Fits s c rack lane source
    reply_admitted = (admitted_fits, fits_admitted)
