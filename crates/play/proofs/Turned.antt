-- A turn on a card that fits and is sound: it is the turn of the rack that its record names, and that is bad, refused by a later test, or taken.
use mathlib.Core.Path.{◌≡◌, sym, ap}
use mathlib.Core.List.{List}
use mathlib.Core.Bool.{true, false, ◌&&◌}
use Prim.Native.Nat.{ℕ, ◌<◌}
use native.Mathlib.Omega.{arith}
use borrow.Author.Tests.{ne_eqb, lt-ltb}
use lib.Dec.{eqb}
use lib.ListN.{set}
use lib.Seq.{set-get_or}
use Rattle.laws.proofs.Cases.{either, bool, and_true}
use Rattle.laws.proofs.Below.{below_at}
use Rattle.model.specs.declared.Size.{Size}
use Rattle.model.specs.declared.Rack.{Rack}
use Rattle.model.specs.Table.{Tables, Card, no_rack, rack_at}
use Rattle.model.specs.Step.{After, stepped, step}
use Rattle.model.specs.Sound.{sound_cells, sound_decisions, sound_logs, sound_tables, sound_rack, sound_state, sound_racks, sound}
use Rattle.model.specs.Turn.{Outcome, bad_record, rack_of, lane_named, source_named, refusal_of, refusal, turned}
use Rattle.model.proofs.Sizes.{sizes, fits_size}
use Rattle.model.proofs.Turns.{good}
use Rattle.step.specs.Ready.{Tested, Ready}
use Rattle.step.proofs.Ready.{tested, ready, unrefused}
use Rattle.play.specs.Playable.{Playable}
use Rattle.play.specs.Rack.{RackOutcome, rack_named, rack_turned}

-- the racks with one of them put back as it was
pub same_racks : (outcome : List Rack → Outcome) (racks : List Rack) (rack : ℕ) → outcome racks ≡ outcome (set racks rack (rack_at racks rack))
same_racks outcome racks rack = ap outcome (sym (set-get_or racks rack no_rack))

module _ (s : Size) (card : Card) (p : Playable s card) where
  -- what the tests of the card say of one rack
  pub rack_tested : (rack : ℕ) → rack < s.racks → Tested s card.tables rack (rack_at card.racks rack)
  unfolding sound sound_tables sound_racks sound_state
  rack_tested rack there =
      let t = card.tables in
      let r = rack_at card.racks rack in
      let a = and_true (sound_tables s t) (sound_racks s card) p.ok in
      let b = and_true (sound_cells s t.cells) (sound_decisions s t.decisions && sound_logs s t.logs) a.0 in
      let d = and_true (sound_decisions s t.decisions) (sound_logs s t.logs) b.1 in
      let z = sizes s (fits_size s t p.fit) in
      let e : sound_state s t rack r ≡ true =
      below_at 8 (λ q. sound_state s t q (rack_at card.racks q)) a.1 rack (omega (arith, z.racks_high))
      in
      let f : sound_rack s t rack r ≡ true = rw (lt-ltb rack s.racks there) at e in
      tested s t rack r p.fit d.0 f there

  module _ (turn : List ℕ) where
    named_few : rack_named s turn < 8
    unfolding rack_named
    named_few =
        let z = sizes s (fits_size s card.tables p.fit) in
        either (bool (bad_record s turn))
        (λ b. rw b (omega arith))
        (λ b. rw b (omega (arith, (good s turn b).there, z.racks_high)))

    named_tested : bad_record s turn ≡ false → Tested s card.tables (rack_of turn) (rack_at card.racks (rack_named s turn))
    unfolding rack_named
    named_tested fine = rw fine (rack_tested (rack_of turn) (good s turn fine).there)

    -- a rack put back as it was
    same : (number rack : ℕ)
        → ◌≡◌ {A = Outcome} (record { number = number; card = record { tables = card.tables; racks = set card.racks rack (rack_at card.racks rack) } })
        (record { number = number; card = card })
    same number rack = sym (same_racks (λ racks. record { number = number; card = record { tables = card.tables; racks = racks } }) card.racks rack)

    named_turned : (o : RackOutcome) → o ≡ rack_turned s card.tables (rack_at card.racks (rack_named s turn)) turn
        → record { number = o.number; card = record { tables = o.after.tables; racks = set card.racks (rack_named s turn) o.after.rack } }
        ≡ turned s card turn
    unfolding turned refusal step rack_named rack_turned
    named_turned o e =
        let t = card.tables in
        let rack = rack_of turn in
        let number = refusal_of s t rack (rack_at card.racks rack) (lane_named turn) (source_named turn) in
        rw e
        (either (bool (bad_record s turn))
        (λ b. rw (p.fit, p.ok, b) (same 3 0))
        (λ b. either (bool (eqb number 0)) (λ n. rw (p.fit, p.ok, b, n)) (λ n. rw (p.fit, p.ok, b, n) (same number rack))))

    module _ (rack : ℕ) (e : rack ≡ rack_named s turn) where
      pub few : rack < 8
      few = rw e named_few

      pub tested_rack : bad_record s turn ≡ false → Tested s card.tables (rack_of turn) (rack_at card.racks rack)
      tested_rack = rw e named_tested

      -- the turn of the rack named, put back among the eight, is the turn
      pub turned_rack : (o : RackOutcome) → o ≡ rack_turned s card.tables (rack_at card.racks rack) turn
          → record { number = o.number; card = record { tables = o.after.tables; racks = set card.racks rack o.after.rack } }
          ≡ turned s card turn
      turned_rack = rw e named_turned

module _ (s : Size) (t : Tables) (r : Rack) (turn : List ℕ) where
  -- past tests 3 to 8 a step may be taken
  pub act_ready : (bad_record s turn ≡ false → Tested s t (rack_of turn) r) → bad_record s turn ≡ false
      → refusal_of s t (rack_of turn) r (lane_named turn) (source_named turn) ≡ 0 → Ready s t (rack_of turn) r
  act_ready h fine none = ready s t (rack_of turn) r (h fine) (unrefused s t (rack_of turn) r (lane_named turn) (source_named turn) none).unfinished
