-- One more cell gathered: what was read before stays, what is not yet read stays empty.
use mathlib.Core.Path.{◌≡◌, ◌∙◌}
use mathlib.Core.Logic.{◌≢◌}
use mathlib.Core.List.{List}
use Prim.Native.Nat.{ℕ, ◌+◌, ◌≤◌, ◌<◌}
use native.Mathlib.Omega.{arith}
use lib.ListN.{length, get_or, set}
use lib.Seq.{get_or-set_same, get_or-set_other}
use Rattle.laws.proofs.Cases.{either, eq_or_ne}
use Rattle.model.specs.declared.Cell.{Cell}
use Rattle.model.specs.Record.{no_cell}

module _ (l : List Cell) (q : ℕ) (c : Cell) (room : q < length l) where
  -- a fact of each cell read
  pub gather_some : (P : ℕ → Cell → Type 0) → ((i : ℕ) → i < q → P i (get_or l i no_cell)) → P q c
      → (i : ℕ) → i < q + 1 → P i (get_or (set l q c) i no_cell)
  gather_some P old new i h =
      either (eq_or_ne i q)
      (λ (e : i ≡ q). rw (e, get_or-set_same l q c no_cell room) new)
      (λ (d : i ≢ q). rw (get_or-set_other l q i c no_cell d) (old i (omega arith)))

  pub gather_none : (i : ℕ) → get_or l i no_cell ≡ no_cell → q + 1 ≤ i → get_or (set l q c) i no_cell ≡ no_cell
  gather_none i e h = get_or-set_other l q i c no_cell (λ d. omega arith) ∙ e
