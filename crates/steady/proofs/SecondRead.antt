-- The step that reads a second cell, but for its block's last.
use mathlib.Core.Path.{◌≡◌, refl, ◌∙◌}
use mathlib.Core.Bool.{true}
use Prim.Native.Nat.{ℕ, ◌+◌, ◌-◌, ◌≤◌, ◌<◌}
use native.Mathlib.Omega.{arith}
use lib.ListN.{length, get_or, length-set}
use Rattle.model.specs.declared.Size.{Size}
use Rattle.model.specs.declared.Cell.{Cell}
use Rattle.model.specs.declared.Rack.{Rack}
use Rattle.model.specs.Size.{block_steps}
use Rattle.model.specs.Record.{no_cell}
use Rattle.model.specs.Table.{Tables, second_cells, cell_now}
use Rattle.model.specs.Kind.{place_at, lane_at, firsts_read, seconds_read}
use Rattle.model.specs.Step.{gathering_second}
use Rattle.model.specs.Sound.{sound_cell}
use Rattle.model.proofs.Place.{stands}
use Rattle.steady.proofs.Facts.{Gathered, ReadBack, RackSound}
use Rattle.steady.proofs.Gather.{gather_some, gather_none}
use Rattle.steady.proofs.Kept.{Ready, Kept}
use Rattle.steady.proofs.Own.{cell_now_is}
use Rattle.steady.proofs.Onward.{place_on}
use Rattle.steady.proofs.Reading.{read_keeps}

module _ (s : Size) (t : Tables) (rack : ℕ) (r : Rack) (ready : Ready s t rack r) (late : 2 ≤ r.step) (low : s.racks + 2 ≤ place_at s r.step) where
  abbrev ok : RackSound s t rack r
  ok = ready.rack_sound

  abbrev pub q : ℕ
  q = place_at s r.step - (s.racks + 2)

  abbrev pub c : Cell
  c = cell_now s t.cells r second_cells (lane_at s r) q

  abbrev pub new : Rack
  new = gathering_second r q c

  pub read_there : q < s.racks
  unfolding block_steps
  read_there = let p = (stands s r.step late).below in omega arith

  seconds_now : seconds_read s r ≡ q
  unfolding seconds_read
  seconds_now = refl

  room : q < length r.seconds
  room = let n = ready.sizes.racks_high in let e = ready.shape.seconds in let h = read_there in omega arith

  pub some_seconds : (i : ℕ) → i < q + 1 → sound_cell s second_cells (get_or new.seconds i no_cell) ≡ true
  some_seconds i h =
      let n = ready.sizes.racks_high in
      let g = read_there in
      let e = seconds_now in
      gather_some r.seconds q c room (λ i x. sound_cell s second_cells x ≡ true) (λ i h. ok.gathered.some_second i (omega arith) (omega arith))
      (cell_now_is s t rack r ready late second_cells q (omega arith) g) i h

  module _ (more : place_at s r.step + 1 < block_steps s) where
    place_next : place_at s (r.step + 1) ≡ place_at s r.step + 1
    place_next = place_on s t rack r ok late r.firsts new.seconds r.results r.news more

    firsts_next : firsts_read s new ≡ firsts_read s r
    unfolding firsts_read
    firsts_next = let p = place_next in omega arith

    seconds_next : seconds_read s new ≡ q + 1
    unfolding seconds_read
    seconds_next = let p = place_next in omega arith

    gathered_next : Gathered s new (firsts_read s r) (q + 1)
    gathered_next =
        let g = ok.gathered in
        let e = seconds_now in
        record {
          some_first = g.some_first;
          no_first = g.no_first;
          some_second = λ i a b. some_seconds i b;
          no_second = λ i a b. gather_none r.seconds q c room i (g.no_second i a (omega arith)) b;
        }

    back_next : ReadBack s t.cells rack new (firsts_read s r) (q + 1) (lane_at s r)
    back_next =
        let e = seconds_now in
        record {
          first_back = ok.back.first_back;
          second_back =
              λ h.
              gather_some r.seconds q c room (λ i x. i ≡ rack → x ≡ cell_now s t.cells r second_cells (lane_at s r) rack)
              (λ i l d. rw d (ok.back.second_back (omega arith)))
              (λ d. rw d)
              rack h refl;
        }

    pub second_read_keeps : Kept s t rack (record { tables = t; rack = new })
    second_read_keeps =
        read_keeps s t rack r ready late r.firsts new.seconds more (λ d. omega arith) (λ d. omega arith)
        ready.shape.firsts
        (length-set r.seconds q c ∙ ready.shape.seconds)
        (rw (firsts_next, seconds_next) gathered_next)
        (rw (firsts_next, seconds_next) back_next)
