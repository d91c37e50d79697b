-- A step within a block that reads a cell and writes none.
use mathlib.Core.Path.{◌≡◌}
use mathlib.Core.Logic.{◌≢◌}
use mathlib.Core.List.{List}
use Prim.Native.Nat.{ℕ, ◌+◌, ◌≤◌, ◌<◌}
use lib.ListN.{length}
use Rattle.model.specs.declared.Size.{Size}
use Rattle.model.specs.declared.Cell.{Cell}
use Rattle.model.specs.declared.Rack.{Rack}
use Rattle.model.specs.Size.{block_steps}
use Rattle.model.specs.Table.{Tables}
use Rattle.model.specs.Kind.{place_at, lane_at, firsts_read, seconds_read}
use Rattle.steady.proofs.Facts.{Gathered, ReadBack, RackSound}
use Rattle.steady.proofs.Kept.{Ready, Kept}
use Rattle.steady.proofs.Writes.{beside_none}
use Rattle.steady.proofs.Onward.{onward, outcome_on, not_last, lane_on, onward_sound}

module _ (s : Size) (t : Tables) (rack : ℕ) (r : Rack) (ready : Ready s t rack r) (late : 2 ≤ r.step) where
  abbrev ok : RackSound s t rack r
  ok = ready.rack_sound

  -- a step that writes nothing
  module _ (firsts seconds : List Cell) (more : place_at s r.step + 1 < block_steps s)
      (first_write : place_at s r.step ≢ 0) (second_write : place_at s r.step ≢ s.racks + 1) where
    abbrev pub next : Rack
    next = onward r firsts seconds r.results r.news

    pub read_keeps : length firsts ≡ 8 → length seconds ≡ 8
        → Gathered s next (firsts_read s next) (seconds_read s next)
        → ReadBack s t.cells rack next (firsts_read s next) (seconds_read s next) (lane_at s r)
        → Kept s t rack (record { tables = t; rack = next })
    read_keeps e f gathered back =
        record {
          tables = ready.tables;
          beside = beside_none s t rack;
          moved =
              onward_sound s t rack r ok late firsts seconds r.results r.news t.cells (λ i h. h)
              (λ d. absurd (first_write d))
              (λ d. absurd (second_write d))
              ready.current
              (not_last s t rack r ok late firsts seconds r.results r.news more)
              gathered
              (rw (lane_on s t rack r ok late firsts seconds r.results r.news more) back)
              (outcome_on s t rack r ok late more firsts seconds)
              (λ lane h g. ((ok.unused lane h g).no_result, (ok.unused lane h g).no_news));
          shape =
              let h = ready.shape in
              record { firsts = e; seconds = f; held = h.held; results = h.results; news = h.news };
        }
