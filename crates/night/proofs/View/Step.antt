-- A step that no refusal 4 to 8 forbids, of any kind: the history accepts the turn, and the card after it shows the history after the turn.
use mathlib.Core.Path.{◌≡◌, ap}
use mathlib.Core.Logic.{◌≢◌}
use mathlib.Core.Bool.{true, false}
use Prim.Native.Nat.{ℕ, suc, ◌+◌, ◌*◌, ◌≤◌, ◌<◌}
use native.Mathlib.Omega.{arith}
use native.Mathlib.Nat.{suc-mul}
use borrow.Author.Tests.{eq-eqb}
use lib.Dec.{eqb}
use Rattle.laws.proofs.Cases.{either, eq_or_ne, and_false, clash_bool}
use Rattle.model.specs.declared.Size.{Size}
use Rattle.model.specs.declared.Rack as card
use Rattle.model.specs.declared.Kind.TheVariants.{SecondRead}
use Rattle.model.specs.Size.{block_steps, round_steps}
use Rattle.model.specs.Table.{Tables}
use Rattle.model.specs.Kind.{place_at}
use Rattle.model.specs.Settle.{too_long}
use Rattle.model.specs.Step.{After, after_second_read, is_last, step_by, stepped}
use Rattle.model.specs.Turn.{overfull}
use Rattle.steady.proofs.Kept.{Ready}
use Rattle.model.proofs.Ranges.{by_kind}
use Rattle.steady.proofs.Refusals.{Allowed, lane_named_is, source_named_is, has_offer, lane_free}
use Rattle.steady.proofs.BlockEnd.{ended}
use Rattle.protocol.specs.AdoptCommit.{Marked}
use Rattle.protocol.specs.FirstEdition.{first_edition}
use Rattle.protocol.specs.History.{History, Turn, turn}
use Rattle.protocol.specs.Clock.{accepts}
use Rattle.protocol.proofs.Invariant.{Invariant}
use Rattle.protocol.proofs.Placed.{Clocked}
use Rattle.night.specs.View.{RackView}
use Rattle.night.proofs.View.Standing.{Visiting, is_visiting, place_is}
use Rattle.night.proofs.View.Moves.{accepted_here}
use Rattle.night.proofs.View.Tables.{TablesView, AfterView}
use Rattle.night.proofs.View.Offer.{offer_accepted, offer_view}
use Rattle.night.proofs.View.Answer.{answer_accepted, answer_view}
use Rattle.night.proofs.View.Writing.{first_write_view, second_write_view}
use Rattle.night.proofs.View.Reading.{first_read_view, second_read_view}
use Rattle.night.proofs.View.BlockEnd.{read_ends, block_end_view}
use Rattle.night.proofs.View.RoundEnd.{round_end_view}

-- what a taken turn has to have and to leave
pub record Followed (s : Size) (q : ℕ) (h : History Marked) (move : Turn) (after : After) : Type 0 where
  pub accepted : accepts first_edition s.racks s.lanes h move ≡ true
  pub shown : AfterView s q after (turn first_edition s.racks s.lanes h move)

module _ (s : Size) (t : Tables) (h : History Marked) (move : Turn) (r : card.Rack) (ready : Ready s t move.rack r)
    (inv : Invariant first_edition s.racks s.lanes h) (clocked : Clocked first_edition s.racks s.lanes h)
    (tables : TablesView s t h) (v : RackView s h move.rack r) where
  abbrev q : ℕ
  q = move.rack

  -- in a block
  module _ (late : 2 ≤ r.step) where
    where_at : Visiting s h q r
    where_at = is_visiting s h q r v inv clocked ready.there late

    taken_there : accepts first_edition s.racks s.lanes h move ≡ true
    taken_there = accepted_here s h move r inv ready.there where_at

    -- the last read of a block
    module _ (low : s.racks + 2 ≤ place_at s r.step) (last : place_at s r.step + 1 ≡ block_steps s) where
      short_enough : overfull s t q r ≡ false → r.step + 1 ≡ round_steps s → too_long s q t.logs (ended s t q r ready late low) ≡ false
      unfolding is_last overfull
      short_enough short e =
          either (and_false (eqb (r.step + 1) (round_steps s)) (too_long s q t.logs (after_second_read s t.cells q r)) short)
          (λ f. clash_bool (eq-eqb (r.step + 1) (round_steps s) e) f)
          (λ f. rw (read_ends s t h move r ready inv tables v where_at late low last) at f)

      more_blocks : r.step + 1 ≢ round_steps s → suc where_at.block < s.lanes
      unfolding round_steps
      more_blocks d =
          let counted = where_at.at.counted in
          let place = place_is s h q r where_at in
          let below = where_at.below in
          let row : suc where_at.block * block_steps s ≡ where_at.block * block_steps s + block_steps s = suc-mul where_at.block (block_steps s) in
          either (eq_or_ne (suc where_at.block) s.lanes)
          (λ (e : suc where_at.block ≡ s.lanes).
          let f : suc where_at.block * block_steps s ≡ s.lanes * block_steps s = ap (λ (x : ℕ). x * block_steps s) e in
          absurd (d (omega arith)))
          (λ (n : suc where_at.block ≢ s.lanes). omega (arith, n))

      last_read : (m p : ℕ) → overfull s t q r ≡ false → AfterView s q (step_by s t q r SecondRead m p) (turn first_edition s.racks s.lanes h move)
      last_read m p short =
          either (eq_or_ne (r.step + 1) (round_steps s))
          (λ (e : r.step + 1 ≡ round_steps s).
          round_end_view s t h move r ready inv clocked tables v where_at late low last e (short_enough short e) m p)
          (λ (d : r.step + 1 ≢ round_steps s).
          block_end_view s t h move r ready inv tables v where_at late low last (more_blocks d) m p)

  pub step_followed : Allowed s t move.rack r move.lane move.source
      → Followed s move.rack h move (stepped s t move.rack r move.lane move.source)
  unfolding stepped
  step_followed a =
      let m = move.lane in
      let p = move.source in
      by_kind s (λ kind. Followed s q h move (step_by s t q r kind m p)) r.step
      (λ e. record {
        accepted = offer_accepted s t h move r ready inv clocked tables v e;
        shown = offer_view s t h move r ready inv clocked tables v e m p;
      })
      (λ e.
      let lane_there = lane_named_is s t q r m p a e in
      let source_there = source_named_is s t q r m p a e in
      let offer = has_offer s t q r m p a e in
      let free = lane_free s t q r m p a e in
      record {
        accepted = answer_accepted s t h move r ready inv clocked tables v e lane_there source_there offer free;
        shown = answer_view s t h move r ready inv clocked tables v e lane_there source_there offer free;
      })
      (λ late e. record {
        accepted = taken_there late;
        shown = first_write_view s t h move r ready inv tables v (where_at late) m p e;
      })
      (λ late low high. record {
        accepted = taken_there late;
        shown = first_read_view s t h move r ready inv tables v (where_at late) m p low high;
      })
      (λ late e. record {
        accepted = taken_there late;
        shown = second_write_view s t h move r ready inv tables v (where_at late) m p e;
      })
      (λ late low. record {
        accepted = taken_there late;
        shown =
            either (eq_or_ne (place_at s r.step + 1) (block_steps s))
            (λ (e : place_at s r.step + 1 ≡ block_steps s). last_read late low e m p a.short)
            (λ (d : place_at s r.step + 1 ≢ block_steps s). second_read_view s t h move r ready inv tables v (where_at late) low m p d);
      })
