-- "Step 0, offer": the card after it shows the history after the turn.
use mathlib.Core.Path.{◌≡◌, refl, sym, ap, ◌∙◌}
use mathlib.Core.Logic.{◌⊎◌, inl, inr, ◌≢◌}
use mathlib.Core.Bool.{true, false, cond}
use Prim.Native.Nat.{ℕ, zero, suc, ◌≤◌, ◌<◌}
use native.Mathlib.Omega.{arith}
use borrow.Author.Tests.{lt-ltb}
use lib.ListN.{length}
use Rattle.laws.proofs.Cases.{either, eq_or_ne, lt_or_ge}
use Rattle.model.specs.declared.Size.{Size}
use Rattle.model.specs.declared.Rack as card
use Rattle.model.specs.declared.Kind.TheVariants.{Offer}
use Rattle.model.specs.Size.{cell_records}
use Rattle.model.specs.Form.{length_of}
use Rattle.model.specs.Record.{no_cell, offered, Cells}
use Rattle.model.specs.Table.{Tables, offers, first_cells, second_cells, cell_index, read_cell, held_at}
use Rattle.model.specs.Kind.{lane_at}
use Rattle.model.specs.Step.{advanced, offers_of, step_by}
use Rattle.model.proofs.Record.{load_other}
use Rattle.model.proofs.Table.{Spot, same_section, same_round, same_lane, same_rack}
use Rattle.steady.proofs.Cells.{length_written, cell_written}
use Rattle.steady.proofs.Kept.{Ready}
use Rattle.steady.proofs.Writes.{celled}
use Rattle.protocol.specs.AdoptCommit.{Marked}
use Rattle.protocol.specs.Object.{taken}
use Rattle.protocol.specs.FirstEdition.{first_edition}
use Rattle.protocol.specs.History as protocol
use Rattle.protocol.specs.History.{offering, answering, Rack, History, Turn, enter, has_offered, act}
use Rattle.protocol.specs.Clock.{step_in, accepts_in, accepts}
use Rattle.protocol.proofs.Invariant.{past_before, past_now, Invariant}
use Rattle.protocol.proofs.Placed.{Clocked}
use Rattle.night.specs.View.{RackView}
use Rattle.night.proofs.View.Past.{ahead}
use Rattle.night.proofs.View.Standing.{is_offering}
use Rattle.night.proofs.View.Cells.{spot}
use Rattle.night.proofs.View.Tables.{TablesView, AfterView}
use Rattle.night.proofs.View.RackChange.{racked, all_racks, rack_changed, tables_changed}
use Rattle.night.proofs.View.Leading.{leading_firsts, leading_seconds}

-- the cells when a rack has offered in the first lanes
module _ (s : Size) (cells : Cells) (q : ℕ) (r : card.Rack) (there : q < s.racks) (low : 1 ≤ r.round) (high : r.round ≤ s.rounds)
    (long : length cells.bytes ≡ length_of cells (cell_records s)) where
  abbrev made : ℕ → Cells
  made n = offers_of s cells q r n

  offer_spot : (lane : ℕ) → lane < s.lanes → Spot s offers r.round lane q
  offer_spot lane l = record { section_there = omega arith; round_low = low; round_high = high; lane_there = l; rack_there = there }

  made_long : (n : ℕ) → length (made n).bytes ≡ length_of (made n) (cell_records s)
  unfolding offers_of
  made_long zero = long
  made_long (suc n) = length_written s (made n) offers r.round n q (offered (held_at r n)) ∙ made_long n

  made_else : (n : ℕ) → n ≤ s.lanes → (section round lane p : ℕ) → Spot s section round lane p
      → (section ≢ offers) ⊎ ((round ≢ r.round) ⊎ (p ≢ q))
      → read_cell s (made n) section round lane p ≡ read_cell s cells section round lane p
  unfolding offers_of
  made_else zero h section round lane p at d = refl
  made_else (suc n) h section round lane p at d =
      load_other (made n) (cell_index s offers r.round n q) (offered (held_at r n)) (cell_index s section round lane p)
      (λ e. either d
      (λ x. x (same_section s section round lane p offers r.round n q at (offer_spot n h) e))
      (λ y. either y
      (λ x. x (same_round s section round lane p offers r.round n q at (offer_spot n h) e))
      (λ x. x (same_rack s section round lane p offers r.round n q at (offer_spot n h) e))))
      ∙ made_else n (omega arith) section round lane p at d

  made_here : (n : ℕ) → n ≤ s.lanes → (lane : ℕ) → lane < n → read_cell s (made n) offers r.round lane q ≡ offered (held_at r lane)
  unfolding offers_of
  made_here zero h lane g = absurd (omega arith)
  made_here (suc n) h lane g =
      either (eq_or_ne lane n)
      (λ (e : lane ≡ n). rw e (cell_written s (made n) offers r.round n q (offered (held_at r n)) (made_long n) (offer_spot n h)))
      (λ (d : lane ≢ n).
      load_other (made n) (cell_index s offers r.round n q) (offered (held_at r n)) (cell_index s offers r.round lane q)
      (λ e. d (same_lane s offers r.round lane q offers r.round n q (offer_spot lane (omega arith)) (offer_spot n h) e))
      ∙ made_here n (omega arith) lane (omega (arith, d)))

module _ (s : Size) (t : Tables) (h : History Marked) (move : Turn) (r : card.Rack) (ready : Ready s t move.rack r)
    (inv : Invariant first_edition s.racks s.lanes h) (clocked : Clocked first_edition s.racks s.lanes h)
    (tables : TablesView s t h) (v : RackView s h move.rack r) (start : r.step ≡ 0) where
  abbrev q : ℕ
  q = move.rack

  abbrev fin : ℕ
  fin = (h.racks q).finished

  is : (h.racks q).phase ≡ offering
  is = is_offering s h q r v start

  pub offer_accepted : accepts first_edition s.racks s.lanes h move ≡ true
  unfolding accepts accepts_in
  offer_accepted = rw (lt-ltb q s.racks ready.there, is)

  abbrev a' : Rack
  a' = enter (h.racks q) answering

  abbrev cells : Cells
  cells = offers_of s t.cells q r s.lanes

  low : 1 ≤ r.round
  low = ready.rack_sound.clock.round_low

  else : (section round lane p : ℕ) → section < 3 → round < s.rounds → lane < s.lanes → p < s.racks
      → (section ≢ offers) ⊎ ((round ≢ fin) ⊎ (p ≢ q))
      → read_cell s cells section (suc round) lane p ≡ read_cell s t.cells section (suc round) lane p
  else section round lane p a b l u d =
      made_else s t.cells q r ready.there low ready.current ready.tables.exact.cells s.lanes (omega arith) section (suc round) lane p
      (spot s section round lane p a b l u)
      (either d (λ x. inl x) (λ y. either y (λ x. inr (inl (λ e. let f = v.round in x (omega arith)))) (λ x. inr (inr x))))

  offers_here : (round lane : ℕ) → round < s.rounds → lane < s.lanes
      → read_cell s cells offers (suc round) lane q ≡ cond (has_offered a' round) (offered (a'.held round lane)) no_cell
  offers_here round lane b l =
      let old = rw is at (tables.offers_shown round lane q b l ready.there) in
      either (eq_or_ne round fin)
      (λ (e : round ≡ fin).
      let at : r.round ≡ suc round = v.round ∙ ap suc (sym e) in
      ap (λ (x : ℕ). read_cell s cells offers x lane q) (sym at)
      ∙ made_here s t.cells q r ready.there low ready.current ready.tables.exact.cells s.lanes (omega arith) lane l
      ∙ ap offered (v.held lane l)
      ∙ rw (e, past_now fin))
      (λ (d : round ≢ fin).
      else offers round lane q (omega arith) b l ready.there (inr (inl d))
      ∙ either (lt_or_ge round fin)
      (λ (g : round < fin). rw (past_before fin round true g) (rw (past_before fin round false g) at old))
      (λ (g : fin ≤ round).
      let more : fin < round = omega (arith, d) in
      rw (ahead fin round true more) (rw (ahead fin round false more) at old)))

  offer_tables : TablesView s (celled t cells) (racked h q a' h.decided)
  offer_tables =
      tables_changed s h q a' h.decided (celled t cells)
      offers_here
      (λ round lane p n b l u. else offers round lane p (omega arith) b l u (inr (inr n)) ∙ tables.offers_shown round lane p b l u)
      (λ lane l. tables.logs_shown q lane ready.there l)
      (λ p lane n u l. tables.logs_shown p lane u l)
      (λ round lane p b l u. else first_cells round lane p (omega arith) b l u (inl (λ e. omega arith)) ∙ tables.firsts_shown round lane p b l u)
      (λ round lane p b l u. else second_cells round lane p (omega arith) b l u (inl (λ e. omega arith)) ∙ tables.seconds_shown round lane p b l u)
      tables.decisions_shown

  not_begun : (lane : ℕ) → taken (h.objects fin lane) q ≡ 0
  not_begun = rw is at (clocked q ready.there).now

  offer_rack : RackView s (all_racks h a') q (advanced r)
  unfolding step_in
  offer_rack =
      record {
        in_range = v.in_range;
        round = v.round;
        step = omega arith;
        first = rw is at v.first;
        firsts = leading_firsts s h q r inv v not_begun (lane_at s (advanced r));
        seconds = leading_seconds s h q r inv v not_begun (lane_at s (advanced r));
        held = v.held;
        results = v.results;
        news = v.news;
      }

  pub offer_view : (m p : ℕ) → AfterView s q (step_by s t q r Offer m p) (protocol.turn first_edition s.racks s.lanes h move)
  unfolding step_by protocol.turn act
  offer_view m p =
      rw (lt-ltb q s.racks ready.there, is)
      (record { tables = offer_tables; rack = rack_changed s h q a' h.decided (advanced r) offer_rack })
