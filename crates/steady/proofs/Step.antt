-- A step that no refusal 4 to 8 forbids keeps the card's lengths, its soundness and its shape.
use mathlib.Core.Path.{◌≡◌, ◌∙◌}
use mathlib.Core.Logic.{◌≢◌}
use mathlib.Core.Bool.{true, false}
use Prim.Native.Nat.{ℕ, ◌+◌, ◌-◌, ◌≤◌, ◌<◌}
use native.Mathlib.Omega.{arith}
use borrow.Author.Tests.{eq-eqb, ne_eqb}
use lib.Dec.{eqb}
use lib.ListN.{set, length-set}
use lib.Seq.{get_or-set_same, get_or-set_other}
use Rattle.laws.proofs.Cases.{either, eq_or_ne, and_false, clash_bool}
use Rattle.model.specs.declared.Size.{Size}
use Rattle.model.specs.declared.Rack.{Rack}
use Rattle.model.specs.declared.Kind.TheVariants.{SecondRead}
use Rattle.model.specs.Size.{block_steps, round_steps}
use Rattle.model.specs.Table.{Tables, Card, no_rack, rack_at}
use Rattle.model.specs.Shape.{Shape}
use Rattle.model.specs.Kind.{place_at}
use Rattle.model.specs.Settle.{too_long}
use Rattle.model.specs.Step.{second_gathered, block_ended, after_second_read, is_last, After, settled, second_read_taken, step_by, stepped, step}
use Rattle.model.specs.Sound.{sound}
use Rattle.model.specs.Turn.{fits, overfull, refusal_of}
use Rattle.model.proofs.Place.{stands}
use Rattle.model.proofs.Sizes.{Sizes, sizes, fits_size, fits_exact, exact_fits}
use Rattle.steady.proofs.Facts.{CardSound}
use Rattle.steady.proofs.Tested.{card_facts, facts_card}
use Rattle.steady.proofs.Kept.{Ready, Kept, stays}
use Rattle.steady.proofs.Onward.{not_last}
use Rattle.model.proofs.Ranges.{by_kind}
use Rattle.steady.proofs.Refusals.{Allowed, allowed, round_left, lane_named_is, source_named_is, has_offer, lane_free}
use Rattle.steady.proofs.Offer.{offer_keeps}
use Rattle.steady.proofs.Answer.{answer_keeps}
use Rattle.steady.proofs.Writing.{first_write_keeps, second_write_keeps}
use Rattle.steady.proofs.FirstRead.{first_read_keeps}
use Rattle.steady.proofs.SecondRead.{new, second_read_keeps}
use Rattle.steady.proofs.BlockEnd.{ended, block_end_keeps}
use Rattle.steady.proofs.RoundEnd.{round_end_keeps}

module _ (s : Size) (t : Tables) (rack : ℕ) (r : Rack) (ready : Ready s t rack r) where
  -- the read of a second cell, which may end its block and its round
  module _ (late : 2 ≤ r.step) (low : s.racks + 2 ≤ place_at s r.step) where
    block_goes_on : place_at s r.step + 1 ≢ block_steps s → after_second_read s t.cells rack r ≡ new s t rack r ready late low
    unfolding after_second_read second_gathered block_steps
    block_goes_on d = rw (ne_eqb (place_at s r.step - (s.racks + 2) + 1) s.racks (λ e. omega (arith, d)))

    block_ends : place_at s r.step + 1 ≡ block_steps s → after_second_read s t.cells rack r ≡ ended s t rack r ready late low
    unfolding after_second_read second_gathered block_ended block_steps
    block_ends e = let n = ready.sizes.racks_low in rw (eq-eqb (place_at s r.step - (s.racks + 2) + 1) s.racks (omega arith))

    -- refusal 8 did not forbid it
    short_enough : overfull s t rack r ≡ false → place_at s r.step + 1 ≡ block_steps s → r.step + 1 ≡ round_steps s
        → too_long s rack t.logs (ended s t rack r ready late low) ≡ false
    unfolding is_last overfull
    short_enough short e f =
        either (and_false (eqb (r.step + 1) (round_steps s)) (too_long s rack t.logs (after_second_read s t.cells rack r)) short)
        (λ g. clash_bool (eq-eqb (r.step + 1) (round_steps s) f) g)
        (λ g. rw (block_ends e) at g)

    last_read_keeps : (m q : ℕ) → overfull s t rack r ≡ false → place_at s r.step + 1 ≡ block_steps s
        → Kept s t rack (step_by s t rack r SecondRead m q)
    unfolding step_by second_read_taken settled is_last
    last_read_keeps m q short e =
        let h = ready.rack_sound.clock.step_high in
        either (eq_or_ne (r.step + 1) (round_steps s))
        (λ (f : r.step + 1 ≡ round_steps s). rw (eq-eqb (r.step + 1) (round_steps s) f, block_ends e)
        (round_end_keeps s t rack r ready late low e f (short_enough short e f)))
        (λ (d : r.step + 1 ≢ round_steps s). rw (ne_eqb (r.step + 1) (round_steps s) d, block_ends e)
        (block_end_keeps s t rack r ready late low e (omega arith)))

    inner_read_keeps : (m q : ℕ) → place_at s r.step + 1 ≢ block_steps s → Kept s t rack (step_by s t rack r SecondRead m q)
    unfolding step_by second_read_taken is_last
    inner_read_keeps m q d =
        let p = (stands s r.step late).below in
        let more : place_at s r.step + 1 < block_steps s = omega arith in
        let h = not_last s t rack r ready.rack_sound late r.firsts r.seconds r.results r.news more in
        rw (ne_eqb (r.step + 1) (round_steps s) (λ e. omega arith), block_goes_on d) (second_read_keeps s t rack r ready late low more)

  pub step_keeps : (m q : ℕ) → Allowed s t rack r m q → Kept s t rack (stepped s t rack r m q)
  unfolding stepped
  step_keeps m q a =
      by_kind s (λ kind. Kept s t rack (step_by s t rack r kind m q)) r.step
      (offer_keeps s t rack r ready m q)
      (λ e. answer_keeps s t rack r ready e m q
      (lane_named_is s t rack r m q a e) (source_named_is s t rack r m q a e)
      (has_offer s t rack r m q a e) (lane_free s t rack r m q a e))
      (λ late e. first_write_keeps s t rack r ready late m q e)
      (λ late low high. first_read_keeps s t rack r ready late low high m q)
      (λ late e. second_write_keeps s t rack r ready late m q e)
      (λ late low. either (eq_or_ne (place_at s r.step + 1) (block_steps s))
      (last_read_keeps late low m q a.short)
      (inner_read_keeps late low m q))

module _ (s : Size) (card : Card) (rack lane source : ℕ) (shape : Shape card) (fit : fits s card.tables ≡ true) (ok : sound s card ≡ true)
    (there : rack < s.racks) (taken : refusal_of s card.tables rack (rack_at card.racks rack) lane source ≡ 0) where
  abbrev r : Rack
  r = rack_at card.racks rack

  abbrev after : After
  after = stepped s card.tables rack r lane source

  small : Sizes card.tables.cells.form.most s
  small = sizes s (fits_size s card.tables fit)

  facts : CardSound s card
  facts = card_facts s card small.lanes_high ok

  eight : rack < 8
  eight = let n = small.racks_high in omega arith

  ready : Ready s card.tables rack r
  ready =
      record {
        sizes = small;
        tables =
            record {
              exact = fits_exact s card.tables fit;
              cells = facts.cells;
              decisions = facts.decisions;
              logs = facts.logs;
            };
        there = there;
        rack_sound = facts.used rack eight there;
        shape = shape.each rack eight;
        current = round_left s card.tables rack r lane source (allowed s card.tables rack r lane source taken);
      }

  kept : Kept s card.tables rack after
  kept = step_keeps s card.tables rack r ready lane source (allowed s card.tables rack r lane source taken)

  -- the rack that moved, and the others
  rack_here : rack_at (set card.racks rack after.rack) rack ≡ after.rack
  rack_here = get_or-set_same card.racks rack after.rack no_rack (let e = shape.racks in let h = eight in omega arith)

  rack_else : (q : ℕ) → q ≢ rack → rack_at (set card.racks rack after.rack) q ≡ rack_at card.racks q
  rack_else q d = get_or-set_other card.racks rack q after.rack no_rack d

  step_facts : CardSound s (record { tables = after.tables; racks = set card.racks rack after.rack })
  step_facts =
      record {
        cells = kept.tables.cells;
        decisions = kept.tables.decisions;
        logs = kept.tables.logs;
        used =
            λ q h g.
            either (eq_or_ne q rack)
            (λ (e : q ≡ rack). rw (e, rack_here) kept.moved)
            (λ (d : q ≢ rack). rw (rack_else q d)
            (stays s card.tables after.tables rack q (rack_at card.racks q) kept.beside d g (facts.used q h g)));
        unused = λ q h g. rw (rack_else q (λ e. omega arith)) (facts.unused q h g);
      }

  pub step_fits : fits s (step s card rack lane source).tables ≡ true
  unfolding step
  step_fits = exact_fits s after.tables kept.tables.exact

  pub step_sound : sound s (step s card rack lane source) ≡ true
  unfolding step
  step_sound = facts_card s (record { tables = after.tables; racks = set card.racks rack after.rack }) small.lanes_high step_facts

  pub step_shape : Shape (step s card rack lane source)
  unfolding step
  step_shape =
      record {
        racks = length-set card.racks rack after.rack ∙ shape.racks;
        each =
            λ q h.
            either (eq_or_ne q rack)
            (λ (e : q ≡ rack). rw (e, rack_here) kept.shape)
            (λ (d : q ≢ rack). rw (rack_else q d) (shape.each q h));
      }
