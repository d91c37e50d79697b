-- Demand 3: of the logs and the rounds, from the history that the card is a view of.
use mathlib.Core.Path.{◌≡◌, refl, sym, ◌∙◌}
use mathlib.Core.Bool.{true}
use mathlib.Core.List.{List}
use Prim.Native.Nat.{ℕ, zero, suc, ◌-◌, ◌/◌, ◌≤◌, ◌<◌}
use native.Mathlib.Omega.{arith}
use Rattle.model.specs.declared.Size.{Size}
use Rattle.model.specs.Size.{size_fits, block_steps, round_steps}
use Rattle.model.specs.Table.{Card}
use Rattle.model.specs.Logs.{one_begins}
use Rattle.protocol.specs.AdoptCommit.{Marked}
use Rattle.protocol.specs.FirstEdition.{first_edition}
use Rattle.protocol.specs.History.{History, log_of, sum, entries}
use Rattle.protocol.specs.Clock.{round_length}
use Rattle.protocol.proofs.FirstEdition.{first_lawful}
use Rattle.protocol.proofs.Theorem.{LogsHold, theorem}
use Rattle.night.specs.Machine.{card, reached, taken, log_bytes, entry_of, cues_of, entries_in}
use Rattle.night.specs.View.{View}
use Rattle.night.specs.Demands.{half_up, Demand3}
use Rattle.night.proofs.Demand.Tied.{Tie}
use Rattle.night.proofs.Demand.Reached.{moves_of, history_of, reached_steady, reached_tied, taken_accepted}
use Rattle.night.proofs.Demand.Begins.{bytes_begin, reached_neat, reached_most}
use Rattle.night.proofs.Demand.Numbers.{numbers_shown}
use Rattle.night.proofs.Demand.Told.{entry_told_is}

-- a round's length, by the size and by its parts
pub round_length_is : (s : Size) → round_steps s ≡ round_length s.racks s.lanes
unfolding round_steps block_steps
round_length_is s = refl

module _ (s : Size) (c : Card) (h : History Marked) (view : View s c h) where
  pub finished_shown : (q : ℕ) → q < s.racks → card.finished s c q ≡ (h.racks q).finished
  finished_shown q l = omega (arith, (view.racks_shown q l).round)

  entries_shown : (q : ℕ) → q < s.racks → (k : ℕ) → k ≤ s.lanes → entries_in card s c q k ≡ entries k h q
  unfolding entries_in sum
  entries_shown q l zero g = refl
  entries_shown q l (suc k) g =
      omega (arith, entries_shown q l k (omega arith), (view.logs_shown q k l g).length)

module _ (s : Size) (tie : Tie s) (e : size_fits s ≡ true) (turns : List (List ℕ)) where
  abbrev C : Card
  C = reached card s turns

  abbrev H : History Marked
  H = history_of s turns

  view : View s C H
  view = (reached_tied s tie e turns).view

  holds : LogsHold first_edition s.racks s.lanes H
  holds = (theorem first_edition first_lawful s.racks s.lanes (moves_of s turns)).logs

  pub logs_begin : (p q lane : ℕ) → p < s.racks → q < s.racks → lane < s.lanes
      → one_begins (log_bytes card s C p lane) (log_bytes card s C q lane) ≡ true
  logs_begin p q lane lp lq ll =
      bytes_begin s C (reached_neat s turns) p q lane lp lq ll (log_of H p lane) (log_of H q lane) (view.logs_shown p lane lp ll) (view.logs_shown q lane lq ll)
      (holds.agree lane ll p q lp lq)

  pub numbers_run : (rack lane place : ℕ) → rack < s.racks → lane < s.lanes → place < card.length s C rack lane
      → let x = entry_of card s C rack lane place in x.number ≡ suc (cues_of card s C rack lane x.issuer place)
  numbers_run rack lane place l ll h =
      let log = view.logs_shown rack lane l ll in
      numbers_shown s C rack lane (log_of H rack lane) log (holds.numbered lane ll rack l) place (omega (arith, log.length))

  pub rounds_finished : (rack : ℕ) → rack < s.racks → card.finished s C rack ≡ taken card s rack turns / round_steps s
  rounds_finished rack l =
      finished_shown s C H view rack l
      ∙ (theorem first_edition first_lawful s.racks s.lanes (moves_of s turns)).clock.rounds rack l
      ∙ (λ i. sym (taken_accepted s tie e turns rack l) i / sym (round_length_is s) i)

  pub entries_held : (rack : ℕ) → rack < s.racks
      → let f = card.finished s C rack in 1 ≤ f → half_up (f - 1) ≤ entries_in card s C rack s.lanes
  entries_held rack l h =
      omega (
        arith,
        finished_shown s C H view rack l,
        holds.not_fewer rack l,
        entries_shown s C H view rack l s.lanes (omega arith),
      )

  -- "no log passes R": it has no more entries than its rack has finished rounds
  pub log_short : (rack lane : ℕ) → rack < s.racks → lane < s.lanes → card.length s C rack lane ≤ card.finished s C rack
  log_short rack lane l ll =
      omega (
        arith,
        finished_shown s C H view rack l,
        (view.logs_shown rack lane l ll).length,
        holds.not_longer lane ll rack l,
      )

pub demand3 : ((s : Size) → size_fits s ≡ true → Tie s) → Demand3 card
demand3 tie =
    record {
      logs_begin = λ s e. logs_begin s (tie s e) e;
      numbers_run = λ s e. numbers_run s (tie s e) e;
      rounds_finished = λ s e. rounds_finished s (tie s e) e;
      entries_held = λ s e. entries_held s (tie s e) e;
      lengths_counted = λ s e turns rack lane l ll. refl;
      entries_told = λ s e turns. entry_told_is s (reached card s turns) (reached_steady s e turns) (reached_most s turns e);
    }
