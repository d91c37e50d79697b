-- A turn of any bytes: one that the card takes is accepted by the history, and the card still shows it.
use mathlib.Core.Path.{◌≡◌, sym}
use mathlib.Core.Logic.{◌≢◌}
use mathlib.Core.List.{List}
use mathlib.Core.Bool.{true, not}
use Prim.Native.Nat.{ℕ, ◌<◌}
use native.Mathlib.Omega.{arith}
use borrow.Author.Tests.{eq-eqb}
use lib.ListN.{length, set}
use lib.Seq.{get_or-set_same, get_or-set_other}
use Rattle.laws.proofs.Cases.{either, eq_or_ne}
use Rattle.model.specs.declared.Size.{Size}
use Rattle.model.specs.declared.Rack as card
use Rattle.model.specs.Table.{Card, no_rack, rack_at}
use Rattle.model.specs.Step.{After, stepped, step}
use Rattle.model.specs.Sound.{sound}
use Rattle.model.specs.Turn.{fits, rack_of, lane_named, source_named, bad_record, refusal_of, refusal, turned}
use Rattle.model.proofs.Sizes.{Sizes, sizes, fits_size, fits_exact}
use Rattle.model.proofs.Turns.{good}
use Rattle.steady.proofs.Facts.{CardSound}
use Rattle.steady.proofs.Tested.{card_facts}
use Rattle.steady.proofs.Kept.{Ready}
use Rattle.steady.proofs.Refusals.{passed, Allowed, allowed, round_left}
use Rattle.steady.proofs.Turn.{Steady}
use Rattle.protocol.specs.AdoptCommit.{Marked}
use Rattle.protocol.specs.FirstEdition.{first_edition}
use Rattle.protocol.specs.History as protocol
use Rattle.protocol.specs.History.{History}
use Rattle.protocol.specs.Clock.{accepts}
use Rattle.protocol.proofs.Invariant.{Invariant}
use Rattle.protocol.proofs.Placed.{Clocked}
use Rattle.night.specs.View.{RackView, View, turn_of}
use Rattle.night.proofs.View.Seen.{same_view, same_part}
use Rattle.night.proofs.View.Tables.{TablesView}
use Rattle.night.proofs.View.Step.{Followed, step_followed}

view_tables : (s : Size) (c : Card) (h : History Marked) → View s c h → TablesView s c.tables h
view_tables s c h v =
    record {
      offers_shown = v.offers_shown;
      firsts_shown = v.firsts_shown;
      seconds_shown = v.seconds_shown;
      decisions_shown = v.decisions_shown;
      logs_shown = v.logs_shown;
    }

module _ (s : Size) (c : Card) (h : History Marked) (steady : Steady s c) (inv : Invariant first_edition s.racks s.lanes h)
    (clocked : Clocked first_edition s.racks s.lanes h) (v : View s c h) (turn : List ℕ) where
  abbrev q : ℕ
  q = rack_of turn

  abbrev r : card.Rack
  r = rack_at c.racks q

  abbrev after : After
  after = stepped s c.tables q r (lane_named turn) (source_named turn)

  abbrev next : History Marked
  next = protocol.turn first_edition s.racks s.lanes h (turn_of turn)

  -- a step that no refusal forbids
  module _ (there : q < s.racks) (free : refusal_of s c.tables q r (lane_named turn) (source_named turn) ≡ 0) where
    small : Sizes c.tables.cells.form.most s
    small = sizes s (fits_size s c.tables steady.fit)

    eight : q < 8
    eight = let n = small.racks_high in omega arith

    facts : CardSound s c
    facts = card_facts s c small.lanes_high steady.ok

    may : Allowed s c.tables q r (lane_named turn) (source_named turn)
    may = allowed s c.tables q r (lane_named turn) (source_named turn) free

    ready : Ready s c.tables q r
    ready =
        record {
          sizes = small;
          tables =
              record {
                exact = fits_exact s c.tables steady.fit;
                cells = facts.cells;
                decisions = facts.decisions;
                logs = facts.logs;
              };
          there = there;
          rack_sound = facts.used q eight there;
          shape = steady.shape.each q eight;
          current = round_left s c.tables q r (lane_named turn) (source_named turn) may;
        }

    followed : Followed s q h (turn_of turn) after
    followed = step_followed s c.tables h (turn_of turn) r ready inv clocked (view_tables s c h v) (v.racks_shown q there) may

    racks_after : (p : ℕ) → p < s.racks → RackView s next p (rack_at (set c.racks q after.rack) p)
    racks_after p l =
        either (eq_or_ne p q)
        (λ (e : p ≡ q).
        let room : q < length c.racks = let f = steady.shape.racks in let g = eight in omega arith in
        rw (e, get_or-set_same c.racks q after.rack no_rack room) followed.shown.rack)
        (λ (d : p ≢ q).
        rw (get_or-set_other c.racks q p after.rack no_rack d)
        (same_view s p (rack_at c.racks p) h next (sym (same_part s.racks s.lanes h (turn_of turn) p d)) (v.racks_shown p l)))

    step_view : View s (step s c q (lane_named turn) (source_named turn)) next
    unfolding step
    step_view =
        let t = followed.shown.tables in
        record {
          offers_shown = t.offers_shown;
          firsts_shown = t.firsts_shown;
          seconds_shown = t.seconds_shown;
          decisions_shown = t.decisions_shown;
          logs_shown = t.logs_shown;
          racks_shown = racks_after;
        }

  module _ (taken : (turned s c turn).number ≡ 0) where
    not_refused : (q < s.racks) × (refusal_of s c.tables q r (lane_named turn) (source_named turn) ≡ 0)
    unfolding turned refusal
    not_refused =
        let exact = passed (not (fits s c.tables)) 0 _ taken in
        let tables-ok = passed (not (sound s c)) 1 _ exact.1 in
        let good_record = passed (bad_record s turn) 2 _ tables-ok.1 in
        ((good s turn good_record.0).there, good_record.1)

    pub turn_accepted : accepts first_edition s.racks s.lanes h (turn_of turn) ≡ true
    turn_accepted = (followed not_refused.0 not_refused.1).accepted

    pub turn_view : View s (turned s c turn).card (protocol.turn first_edition s.racks s.lanes h (turn_of turn))
    unfolding turned
    turn_view = rw (eq-eqb (refusal s c turn) 0 taken) (step_view not_refused.0 not_refused.1)
