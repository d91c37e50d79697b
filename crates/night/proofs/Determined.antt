-- The demands determine all that is told: on every night a machine that meets them does and says what the card of document 01 does and says.
use mathlib.Core.Path.{◌≡◌, sym, ap, ◌∙◌}
use mathlib.Core.Bool.{true, cond}
use mathlib.Core.List.{List}
use Prim.Native.Nat.{ℕ, ◌/◌, ◌<◌}
use Rattle.model.specs.declared.Size.{Size}
use Rattle.std.specs.Prelude.{Ok, Err}
use Rattle.model.specs.Size.{size_fits, round_steps}
use Rattle.model.specs.Table.{Card, log_length}
use Rattle.model.specs.Logs.{is_there}
use Rattle.night.specs.Machine.{Machine, card, from, reached, taken_from, taken, entry_of}
use Rattle.night.specs.Demands.{Demands}
use Rattle.night.proofs.Alike.{Alike, same_from, same_taken}
use Rattle.night.proofs.Demand.Demands.{demands}

pub record Same (M : Machine) (s : Size) (turns : List (List ℕ)) : Type 0 where
  -- the tables and the racks
  pub reaches : reached M s turns ≡ reached card s turns
  -- the reply to whatever turn comes next, and what it changes
  pub replies : (turn : List ℕ) → M.turn s (reached M s turns) turn ≡ card.turn s (reached card s turns) turn
  pub takes : (rack : ℕ) → taken M s rack turns ≡ taken card s rack turns
  -- what is told of the card
  pub finishes : (rack : ℕ) → rack < s.racks → M.finished s (reached M s turns) rack ≡ card.finished s (reached card s turns) rack
  pub lengths : (rack lane : ℕ) → rack < s.racks → lane < s.lanes
      → M.length s (reached M s turns) rack lane ≡ card.length s (reached card s turns) rack lane
  pub entries : (rack lane place : ℕ) → M.entry s (reached M s turns) rack lane place ≡ card.entry s (reached card s turns) rack lane place

module _ (M : Machine) (d : Demands M) (s : Size) (e : size_fits s ≡ true) (turns : List (List ℕ)) where
  starts : M.fresh s ≡ card.fresh s
  starts = d.demand2.starts_fresh s e

  exact : Alike card M s (M.fresh s)
  exact before turn = sym (d.demand2.turns_exact s e before turn)

  reaches : reached M s turns ≡ reached card s turns
  reaches =
      sym (same_from card M s (M.fresh s) exact turns)
      ∙ ap (λ (c : Card). from card s c turns) starts

  takes : (rack : ℕ) → taken M s rack turns ≡ taken card s rack turns
  takes rack =
      sym (same_taken card M s (M.fresh s) exact rack turns)
      ∙ ap (λ (c : Card). taken_from card s c rack turns) starts

  pub same_machine : Same M s turns
  same_machine =
      record {
        reaches = reaches;
        replies = λ turn. d.demand2.turns_exact s e turns turn ∙ ap (λ (c : Card). card.turn s c turn) reaches;
        takes = takes;
        finishes = λ rack l.
            d.demand3.rounds_finished s e turns rack l
            ∙ ap (λ (x : ℕ). x / round_steps s) (takes rack)
            ∙ sym (demands.demand3.rounds_finished s e turns rack l);
        lengths = λ rack lane l ll.
            d.demand3.lengths_counted s e turns rack lane l ll ∙ ap (λ (c : Card). log_length s c.tables.logs rack lane) reaches;
        entries = λ rack lane place.
            d.demand3.entries_told s e turns rack lane place
            ∙ ap
            (λ (c : Card). cond (is_there s c.tables.logs rack lane place) (Ok (entry_of card s c rack lane place)) (Err 9))
            reaches
            ∙ sym (demands.demand3.entries_told s e turns rack lane place);
      }
