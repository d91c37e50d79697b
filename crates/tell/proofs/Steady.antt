-- What a steady card gives to whoever tells its turns and its logs, and that a card filled afresh is steady.
use mathlib.Core.Path.{◌≡◌}
use mathlib.Core.List.{List}
use mathlib.Core.Bool.{true}
use Prim.Native.Nat.{ℕ, ◌≤◌, ◌<◌}
use native.Mathlib.Omega.{arith}
use Rattle.model.specs.declared.Size.{Size}
use Rattle.model.specs.Size.{size_up_to}
use Rattle.model.specs.InUse.{tables_of}
use Rattle.model.specs.Table.{Card, rack_at}
use Rattle.model.specs.Turn.{Outcome, fits}
use Rattle.model.specs.Sound.{sound_logs}
use Rattle.model.specs.Fresh.{fresh_card, filled}
use Rattle.model.proofs.Sizes.{sizes, fits_size}
use Rattle.steady.proofs.Facts.{CardSound}
use Rattle.steady.proofs.Tested.{card_facts}
use Rattle.steady.proofs.Fresh.{fresh_fits, fresh_sound, fresh_shape}
use Rattle.steady.proofs.Turn.{Steady}

module _ (s : Size) where
  -- the call that fills tables which fit leaves a fresh card
  pub filled_steady : (cells logs decisions : List ℕ) (o : Outcome) → o ≡ filled s (tables_of cells logs decisions)
      → fits s (tables_of cells logs decisions) ≡ true → Steady s o.card
  unfolding filled fresh_card
  filled_steady cells logs decisions o e f =
      let fit = fits_size s (tables_of cells logs decisions) f in
      rw (e, f) (record { shape = fresh_shape s; fit = fresh_fits s fit; ok = fresh_sound s fit })

  -- and does not refuse
  pub filled_taken : (cells logs decisions : List ℕ) (o : Outcome) → o ≡ filled s (tables_of cells logs decisions)
      → fits s (tables_of cells logs decisions) ≡ true → o.number ≡ 0
  unfolding filled
  filled_taken cells logs decisions o e f = rw (e, f)

  module _ (card : Card) (h : Steady s card) where
    pub steady_size : size_up_to card.tables.cells.form.most s ≡ true
    steady_size = fits_size s card.tables h.fit

    facts : CardSound s card
    facts = card_facts s card (sizes s steady_size).lanes_high h.ok

    pub steady_logs : sound_logs s card.tables.logs ≡ true
    steady_logs = facts.logs

    pub steady_round : (rack : ℕ) → rack < s.racks → 1 ≤ (rack_at card.racks rack).round
    steady_round rack g = (facts.used rack (omega (arith, (sizes s steady_size).racks_high)) g).clock.round_low
