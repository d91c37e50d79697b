-- After any list of turns, taken or refused, the card shows the history of those that it took, and each of these was accepted there.
use mathlib.Core.Path.{◌≡◌, refl}
use mathlib.Core.Logic.{◌≢◌}
use mathlib.Core.List.{List, [], ◌∷◌}
use mathlib.Core.Bool.{true}
use Prim.Native.Nat.{ℕ, ◌<◌}
use native.Mathlib.Omega.{arith}
use borrow.Author.Tests.{eq-eqb, ne_eqb}
use lib.Dec.{eqb}
use Rattle.laws.proofs.Cases.{either, bool, eq_or_ne}
use Rattle.model.specs.declared.Size.{Size}
use Rattle.model.specs.Size.{size_fits}
use Rattle.model.specs.Table.{Card}
use Rattle.model.specs.Turn.{fits, rack_of, turned}
use Rattle.model.specs.Fresh.{fresh_card}
use Rattle.model.proofs.Turns.{turn_stays}
use Rattle.steady.proofs.Turn.{Steady, turn_steady}
use Rattle.steady.proofs.Fresh.{fresh_fits, fresh_sound, fresh_shape}
use Rattle.protocol.specs.AdoptCommit.{Marked}
use Rattle.protocol.specs.FirstEdition.{first_edition}
use Rattle.protocol.specs.History.{History, fresh_history, after, history}
use Rattle.protocol.specs.Clock.{accepted}
use Rattle.protocol.proofs.FirstEdition.{first_lawful}
use Rattle.protocol.proofs.Invariant.{Invariant, fresh_invariant}
use Rattle.protocol.proofs.Turn.{turn_invariant}
use Rattle.protocol.proofs.Placed.{Clocked}
use Rattle.protocol.proofs.Clock.{turn_clocked, fresh_clocked}
use Rattle.night.specs.Machine.{card, from, reached, taken_from, taken}
use Rattle.night.specs.View.{View, turn_of, moves_from}
use Rattle.night.proofs.View.Logs.{same_test}
use Rattle.night.proofs.View.Turn.{turn_accepted, turn_view}
use Rattle.night.proofs.View.Fresh.{fresh_view}

pub view_after : (s : Size) (c : Card) (h : History Marked) (turns : List (List ℕ)) → Steady s c
    → Invariant first_edition s.racks s.lanes h → Clocked first_edition s.racks s.lanes h → View s c h
    → View s (from card s c turns) (after first_edition s.racks s.lanes h (moves_from s c turns))
unfolding from after moves_from
view_after s c h [] steady inv clocked v = v
view_after s c h (turn ∷ turns) steady inv clocked v =
    either (eq_or_ne (turned s c turn).number 0)
    (λ (e : (turned s c turn).number ≡ 0).
    rw (eq-eqb (turned s c turn).number 0 e)
    (view_after s (turned s c turn).card _ turns (turn_steady s c turn steady)
    (turn_invariant first_edition first_lawful s.racks s.lanes h (turn_of turn) inv)
    (turn_clocked first_edition s.racks s.lanes h inv clocked (turn_of turn))
    (turn_view s c h steady inv clocked v turn e)))
    (λ (d : (turned s c turn).number ≢ 0).
    rw (ne_eqb (turned s c turn).number 0 d)
    (view_after s (turned s c turn).card h turns (turn_steady s c turn steady) inv clocked (rw (turn_stays s c turn d) v)))

pub taken_after : (s : Size) (c : Card) (h : History Marked) (turns : List (List ℕ)) → Steady s c
    → Invariant first_edition s.racks s.lanes h → Clocked first_edition s.racks s.lanes h → View s c h
    → (q : ℕ) → q < s.racks → taken_from card s c q turns ≡ accepted first_edition s.racks s.lanes q h (moves_from s c turns)
unfolding taken_from accepted moves_from
taken_after s c h [] steady inv clocked v q l = refl
taken_after s c h (turn ∷ turns) steady inv clocked v q l =
    either (eq_or_ne (turned s c turn).number 0)
    (λ (e : (turned s c turn).number ≡ 0).
    let rest =
    taken_after s (turned s c turn).card _ turns (turn_steady s c turn steady)
    (turn_invariant first_edition first_lawful s.racks s.lanes h (turn_of turn) inv)
    (turn_clocked first_edition s.racks s.lanes h inv clocked (turn_of turn))
    (turn_view s c h steady inv clocked v turn e) q l
    in
    rw (eq-eqb (turned s c turn).number 0 e, same_test (rack_of turn) q, turn_accepted s c h steady inv clocked v turn e)
    (either (bool (eqb q (rack_of turn))) (λ b. rw b (omega arith)) (λ b. rw b (omega arith))))
    (λ (d : (turned s c turn).number ≢ 0).
    let rest = taken_after s (turned s c turn).card h turns (turn_steady s c turn steady) inv clocked (rw (turn_stays s c turn d) v) q l in
    rw (ne_eqb (turned s c turn).number 0 d) (omega arith))

-- from a fresh table
module _ (s : Size) (e : size_fits s ≡ true) where
  fresh_steady : Steady s (fresh_card s)
  fresh_steady = record { shape = fresh_shape s; fit = fresh_tables_is; ok = fresh_sound s e }
    where
      fresh_tables_is : fits s (fresh_card s).tables ≡ true
      fresh_tables_is = unfold fresh_card in fresh_fits s e

  pub reached_view : (turns : List (List ℕ))
      → View s (reached card s turns) (history first_edition s.racks s.lanes (moves_from s (fresh_card s) turns))
  reached_view turns =
      view_after s (fresh_card s) (fresh_history first_edition) turns fresh_steady
      (fresh_invariant first_edition s.racks s.lanes) (fresh_clocked first_edition s.racks s.lanes) (fresh_view s e)

  pub reached_taken : (turns : List (List ℕ)) (q : ℕ) → q < s.racks
      → taken card s q turns ≡ accepted first_edition s.racks s.lanes q (fresh_history first_edition) (moves_from s (fresh_card s) turns)
  reached_taken turns =
      taken_after s (fresh_card s) (fresh_history first_edition) turns fresh_steady
      (fresh_invariant first_edition s.racks s.lanes) (fresh_clocked first_edition s.racks s.lanes) (fresh_view s e)
