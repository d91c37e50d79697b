-- The step that reads a first cell.
use mathlib.Core.Path.{◌≡◌, refl, ◌∙◌}
use mathlib.Core.Bool.{true}
use Prim.Native.Nat.{ℕ, ◌+◌, ◌-◌, ◌≤◌, ◌<◌}
use native.Mathlib.Omega.{arith}
use lib.ListN.{length, length-set}
use Rattle.model.specs.declared.Size.{Size}
use Rattle.model.specs.declared.Cell.{Cell}
use Rattle.model.specs.declared.Rack.{Rack}
use Rattle.model.specs.declared.Kind.TheVariants.{FirstRead}
use Rattle.model.specs.Size.{block_steps}
use Rattle.model.specs.Table.{Tables, first_cells, cell_now}
use Rattle.model.specs.Kind.{place_at, lane_at, firsts_read, seconds_read}
use Rattle.model.specs.Step.{gathering_first, after_first_read, step_by}
use Rattle.model.specs.Sound.{sound_cell}
use Rattle.steady.proofs.Facts.{Gathered, ReadBack, RackSound}
use Rattle.steady.proofs.Gather.{gather_some, gather_none}
use Rattle.steady.proofs.Kept.{Ready, Kept}
use Rattle.steady.proofs.Own.{cell_now_is}
use Rattle.steady.proofs.Onward.{place_on}
use Rattle.steady.proofs.Reading.{read_keeps}

module _ (s : Size) (t : Tables) (rack : ℕ) (r : Rack) (ready : Ready s t rack r) (late : 2 ≤ r.step)
    (low : 1 ≤ place_at s r.step) (high : place_at s r.step ≤ s.racks) where
  abbrev ok : RackSound s t rack r
  ok = ready.rack_sound

  abbrev q : ℕ
  q = place_at s r.step - 1

  abbrev c : Cell
  c = cell_now s t.cells r first_cells (lane_at s r) q

  abbrev new : Rack
  new = gathering_first r q c

  more : place_at s r.step + 1 < block_steps s
  unfolding block_steps
  more = let n = ready.sizes.racks_low in omega arith

  place_next : place_at s (r.step + 1) ≡ place_at s r.step + 1
  place_next = place_on s t rack r ok late new.firsts r.seconds r.results r.news more

  firsts_next : firsts_read s new ≡ q + 1
  unfolding firsts_read
  firsts_next = let p = place_next in omega arith

  firsts_now : firsts_read s r ≡ q
  unfolding firsts_read
  firsts_now = omega arith

  seconds_next : seconds_read s new ≡ 0
  unfolding seconds_read
  seconds_next = let p = place_next in omega arith

  seconds_now : seconds_read s r ≡ 0
  unfolding seconds_read
  seconds_now = omega arith

  room : q < length r.firsts
  room = let n = ready.sizes.racks_high in let e = ready.shape.firsts in omega arith

  gathered_next : Gathered s new (q + 1) 0
  gathered_next =
      let g = ok.gathered in
      let e = firsts_now in
      let f = seconds_now in
      let n = ready.sizes.racks_high in
      record {
        some_first =
            λ i a b.
            gather_some r.firsts q c room (λ i x. sound_cell s first_cells x ≡ true) (λ i h. g.some_first i (omega arith) (omega arith))
            (cell_now_is s t rack r ready late first_cells q (omega arith) (omega arith)) i b;
        no_first = λ i a b. gather_none r.firsts q c room i (g.no_first i a (omega arith)) b;
        some_second = λ i a b. absurd (omega arith);
        no_second = λ i a b. g.no_second i a (omega arith);
      }

  back_next : ReadBack s t.cells rack new (q + 1) 0 (lane_at s r)
  back_next =
      let e = firsts_now in
      record {
        first_back =
            λ h.
            gather_some r.firsts q c room (λ i x. i ≡ rack → x ≡ cell_now s t.cells r first_cells (lane_at s r) rack)
            (λ i l d. rw d (ok.back.first_back (omega arith)))
            (λ d. rw d)
            rack h refl;
        second_back = λ h. absurd (omega arith);
      }

  pub first_read_keeps : (m p : ℕ) → Kept s t rack (step_by s t rack r FirstRead m p)
  unfolding step_by after_first_read
  first_read_keeps m p =
      read_keeps s t rack r ready late new.firsts r.seconds more (λ d. omega arith) (λ d. omega arith)
      (length-set r.firsts q c ∙ ready.shape.firsts)
      ready.shape.seconds
      (rw (firsts_next, seconds_next) gathered_next)
      (rw (firsts_next, seconds_next) back_next)
