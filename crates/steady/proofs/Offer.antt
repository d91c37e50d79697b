-- "Step 0, offer: all k held values go into the rack's offer cells of this round."
use mathlib.Core.Path.{◌≡◌, refl, ◌∙◌}
use mathlib.Core.Logic.{◌≢◌}
use mathlib.Core.Bool.{true, false}
use Prim.Native.Nat.{ℕ, zero, suc, ◌≤◌, ◌<◌}
use native.Mathlib.Omega.{arith}
use Rattle.laws.proofs.Cases.{either, eq_or_ne}
use Rattle.model.specs.declared.Size.{Size}
use Rattle.model.specs.declared.Rack.{Rack}
use Rattle.model.specs.declared.Kind.TheVariants.{Offer}
use Rattle.model.specs.Record.{is_empty, offered, cell_at, Cells}
use Rattle.model.specs.Table.{Tables, offers, read_cell, cell_now, held_at, cell_index}
use Rattle.model.specs.Step.{offers_of, step_by}
use Rattle.model.specs.Sound.{mark_fits, sound_cell}
use Rattle.model.proofs.Table.{Spot}
use Rattle.steady.proofs.Facts.{RackSound}
use Rattle.steady.proofs.Cells.{sound_cell_is, cell_written}
use Rattle.steady.proofs.Kept.{Ready, Kept, TablesSound, shape_on}
use Rattle.steady.proofs.Writes.{celled, beside_cells, other_rack, write_tables, write_full}
use Rattle.steady.proofs.Leading.{leading_sound}

module _ (s : Size) (t : Tables) (rack : ℕ) (r : Rack) (ready : Ready s t rack r) where
  abbrev ok : RackSound s t rack r
  ok = ready.rack_sound

  -- the cells when the first lanes are offered
  abbrev made : ℕ → Cells
  made lane = offers_of s t.cells rack r lane

  spot : (lane : ℕ) → lane < s.lanes → Spot s offers r.round lane rack
  spot lane h =
      record {
        section_there = omega arith;
        round_low = ok.clock.round_low;
        round_high = ready.current;
        lane_there = h;
        rack_there = ready.there;
      }

  offer_sound : (lane : ℕ) → lane < s.lanes → sound_cell s offers (offered (held_at r lane)) ≡ true
  unfolding mark_fits
  offer_sound lane h = sound_cell_is s offers (offered (held_at r lane)) refl refl (ok.held lane h).held_sound

  made_tables : (lane : ℕ) → lane ≤ s.lanes → TablesSound s (celled t (made lane))
  unfolding offers_of
  made_tables zero h = ready.tables
  made_tables (suc lane) h =
      write_tables s (celled t (made lane)) (made_tables lane (omega arith)) offers r.round lane rack (offered (held_at r lane))
      (spot lane h) (offer_sound lane h)

  made_full : (lane : ℕ) → lane ≤ s.lanes → (i : ℕ) → is_empty (cell_at t.cells i) ≡ false → is_empty (cell_at (made lane) i) ≡ false
  unfolding offers_of
  made_full zero h i f = f
  made_full (suc lane) h i f =
      write_full s (celled t (made lane)) (made_tables lane (omega arith)) offers r.round lane rack (offered (held_at r lane)) (spot lane h) refl i
      (made_full lane (omega arith) i f)

  made_beside : (lane : ℕ) → lane ≤ s.lanes → (q : ℕ) → q ≢ rack → (section round lane' : ℕ) → Spot s section round lane' q
      → read_cell s (made lane) section round lane' q ≡ read_cell s t.cells section round lane' q
  unfolding offers_of
  made_beside zero h q d section round lane' p = refl
  made_beside (suc lane) h q d section round lane' p =
      other_rack s (made lane) offers r.round lane rack (offered (held_at r lane)) (spot lane h) q d section round lane' p
      ∙ made_beside lane (omega arith) q d section round lane' p

  made_here : (lane : ℕ) → lane ≤ s.lanes → (l : ℕ) → l < lane → is_empty (cell_now s (made lane) r offers l rack) ≡ false
  unfolding offers_of
  made_here zero h l g = absurd (omega arith)
  made_here (suc lane) h l g =
      let so_far = made_tables lane (omega arith) in
      either (eq_or_ne l lane)
      (λ (e : l ≡ lane).
      rw (e, cell_written s (made lane) offers r.round lane rack (offered (held_at r lane)) so_far.exact.cells (spot lane h)))
      (λ (d : l ≢ lane).
      write_full s (celled t (made lane)) so_far offers r.round lane rack (offered (held_at r lane)) (spot lane h) refl
      (cell_index s offers r.round l rack) (made_here lane (omega arith) l (omega arith)))

  pub offer_keeps : (m q : ℕ) → r.step ≡ 0 → Kept s t rack (step_by s t rack r Offer m q)
  unfolding step_by
  offer_keeps m q e =
      record {
        tables = made_tables s.lanes (omega arith);
        beside = beside_cells s t rack (made s.lanes) (made_beside s.lanes (omega arith)) (made_full s.lanes (omega arith));
        moved =
            leading_sound s t rack r ok (omega arith) r.first (made s.lanes) t.decisions
            ready.sizes.lanes_low
            ready.current
            (record { none_yet = λ h. ok.first.none_yet (omega arith); named = λ h. absurd (omega arith) })
            (λ h. absurd (omega arith))
            (made_here s.lanes (omega arith));
        shape = shape_on r r.first ready.shape;
      }
