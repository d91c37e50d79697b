-- "Step 1, answer: the turn names lane m and source q. Decision (round, m) becomes q; m is the first lane."
use mathlib.Core.Path.{◌≡◌, refl, sym, ap, ◌∙◌}
use mathlib.Core.Logic.{◌⊎◌, ◌≢◌}
use mathlib.Core.List.{List}
use mathlib.Core.Bool.{false}
use Prim.Native.Nat.{ℕ, ◌<◌}
use native.Mathlib.Omega.{arith}
use lib.ListN.{get_or, set, length-set}
use lib.Seq.{get_or-set_same, get_or-set_other}
use Rattle.laws.proofs.Cases.{either, eq_or_ne}
use Rattle.model.specs.declared.Size.{Size}
use Rattle.model.specs.declared.Rack.{Rack}
use Rattle.model.specs.declared.Kind.TheVariants.{Answer}
use Rattle.model.specs.Record.{is_empty}
use Rattle.model.specs.Table.{Tables, offers, read_cell, undecided, decision_index, decision_at}
use Rattle.model.specs.Step.{winning, answered, step_by}
use Rattle.model.proofs.Table.{decision_fits}
use Rattle.steady.proofs.Facts.{Chosen, RackSound}
use Rattle.steady.proofs.Decisions.{decide_sound}
use Rattle.steady.proofs.Kept.{Ready, Kept, shape_on}
use Rattle.steady.proofs.Leading.{leading_sound}

module _ (s : Size) (t : Tables) (rack : ℕ) (r : Rack) (ready : Ready s t rack r) (one : r.step ≡ 1) (m q : ℕ)
    (lane_there : m < s.lanes) (source_there : q < s.racks)
    (offer : is_empty (read_cell s t.cells offers r.round m q) ≡ false)
    (free : (decision_at s t.decisions r.round m ≡ undecided) ⊎ (decision_at s t.decisions r.round m ≡ q)) where
  abbrev ok : RackSound s t rack r
  ok = ready.rack_sound

  abbrev decided : List ℕ
  decided = set t.decisions (decision_index s r.round m) q

  abbrev after : Tables
  after = record { cells = t.cells; logs = t.logs; decisions = decided }

  decision_now : decision_at s decided r.round m ≡ q
  decision_now =
      let h = decision_fits s r.round m ok.clock.round_low ready.current lane_there in
      let e = ready.tables.exact.decisions in
      get_or-set_same t.decisions (decision_index s r.round m) q 0 (omega arith)

  -- a decision that was made stays
  decision_stays : (round lane : ℕ) → decision_at s t.decisions round lane ≢ undecided
      → decision_at s decided round lane ≡ decision_at s t.decisions round lane
  decision_stays round lane d =
      either (eq_or_ne (decision_index s round lane) (decision_index s r.round m))
      (λ (e : decision_index s round lane ≡ decision_index s r.round m).
      let f : decision_at s t.decisions round lane ≡ decision_at s t.decisions r.round m = ap (λ (i : ℕ). get_or t.decisions i 0) e in
      let g : decision_at s decided round lane ≡ q = ap (λ (i : ℕ). get_or decided i 0) e ∙ decision_now in
      either free
      (λ u. absurd (d (f ∙ u)))
      (λ u. g ∙ sym (f ∙ u)))
      (λ (n : decision_index s round lane ≢ decision_index s r.round m).
      get_or-set_other t.decisions (decision_index s r.round m) (decision_index s round lane) q 0 n)

  chosen : Chosen s after (winning r m)
  chosen =
      let n = ready.sizes.racks_high in
      let e = decision_now in
      record { decided = λ u. omega arith; offer = rw e offer }

  pub answer_keeps : Kept s t rack (step_by s t rack r Answer m q)
  unfolding step_by answered
  answer_keeps =
      let x = ready.tables in
      record {
        tables =
            record {
              exact =
                  record {
                    size = x.exact.size;
                    cells = x.exact.cells;
                    logs = x.exact.logs;
                    decisions = length-set t.decisions (decision_index s r.round m) q ∙ x.exact.decisions;
                  };
              cells = x.cells;
              decisions = decide_sound s t.decisions x.decisions (decision_index s r.round m) q x.exact.decisions source_there;
              logs = x.logs;
            };
        beside =
            record {
              own = λ p d section round lane h. refl;
              full = λ i f. f;
              decided = λ round lane a b c d. decision_stays round lane d;
              lengths = λ p d g lane h. refl;
            };
        moved =
            leading_sound s t rack r ok (omega arith) m t.cells decided
            ready.sizes.lanes_low
            ready.current
            (record { none_yet = λ h. absurd (omega arith); named = λ h. lane_there })
            (λ h. chosen)
            (λ lane h. (ok.written lane h).offer (omega arith));
        shape = shape_on r m ready.shape;
      }
