-- One step in one object changes one slot of the history and at most one cell of the table: what the cells show stays right.
use mathlib.Core.Path.{◌≡◌, refl, sym, ap, ◌∙◌}
use mathlib.Core.Logic.{◌⊎◌, inl, inr, ◌≢◌}
use mathlib.Core.Option.{Option}
use Prim.Native.Nat.{ℕ, suc, ◌<◌}
use native.Mathlib.Omega.{arith}
use lib.ListN.{length}
use Rattle.laws.proofs.Cases.{either, eq_or_ne}
use Rattle.model.specs.declared.Size.{Size}
use Rattle.model.specs.declared.Cell.{Cell}
use Rattle.model.specs.Size.{cell_records}
use Rattle.model.specs.Form.{length_of}
use Rattle.model.specs.Record.{Cells}
use Rattle.model.specs.Table.{cell_index, read_cell, write_cell}
use Rattle.model.proofs.Record.{load_other}
use Rattle.model.proofs.Table.{Spot, same_rack, same_lane, same_round}
use Rattle.steady.proofs.Cells.{cell_written}
use Rattle.protocol.specs.AdoptCommit.{Marked}
use Rattle.protocol.specs.Put.{put, put_at}
use Rattle.protocol.specs.Layer.{Slot}
use Rattle.protocol.specs.Object.{Object}
use Rattle.protocol.proofs.Put.{put_all, put_at_all, put_at_same, put_at_lane, put_at_round}

pub spot : (s : Size) (section r lane q : ℕ) → section < 3 → r < s.rounds → lane < s.lanes → q < s.racks → Spot s section (suc r) lane q
spot s section r lane q a b c d =
    record { section_there = a; round_low = omega arith; round_high = b; lane_there = c; rack_there = d }

-- a change of one object
module _ {X : Type 0} (slots : Object Marked → ℕ → Slot X) (objects : ℕ → ℕ → Object Marked) (r₀ c₀ : ℕ) (o : Object Marked) where
  -- none of its slots of this kind
  unchanged : slots o ≡ slots (objects r₀ c₀) → (r lane : ℕ) → slots (put_at objects r₀ c₀ o r lane) ≡ slots (objects r lane)
  unchanged e = put_at_all objects r₀ c₀ o (λ r lane x. slots x ≡ slots (objects r lane)) e (λ r lane. refl)

  -- the slot of q alone
  module _ (q : ℕ) (a : Slot X) (e : slots o ≡ put (slots (objects r₀ c₀)) q a) (P : ℕ → ℕ → ℕ → Slot X → Type 0) (here : P r₀ c₀ q a)
      (elsewhere : (r lane p : ℕ) → (r ≢ r₀) ⊎ ((lane ≢ c₀) ⊎ (p ≢ q)) → P r lane p (slots (objects r lane) p)) where
    in_object : (p : ℕ) → P r₀ c₀ p (slots o p)
    in_object p = rw e (put_all (slots (objects r₀ c₀)) q a (P r₀ c₀) here (λ i d. elsewhere r₀ c₀ i (inr (inr d))) p)

    changed : (r lane p : ℕ) → P r lane p (slots (put_at objects r₀ c₀ o r lane) p)
    changed r lane p =
        either (eq_or_ne r r₀)
        (λ (f : r ≡ r₀). either (eq_or_ne lane c₀)
        (λ (g : lane ≡ c₀). rw (f, g, put_at_same objects r₀ c₀ o) (in_object p))
        (λ (d : lane ≢ c₀). rw (put_at_lane objects r₀ c₀ o r lane d) (elsewhere r lane p (inr (inl d)))))
        (λ (d : r ≢ r₀). rw (put_at_round objects r₀ c₀ o r lane d) (elsewhere r lane p (inl d)))

-- what the cells of a section show
abbrev pub Shown : {X : Type 0} → (Option X → Cell) → (Object Marked → ℕ → Slot X) → ℕ → Size → Cells → (ℕ → ℕ → Object Marked) → Type 0
Shown show slots section s cells objects =
    (r lane q : ℕ) → r < s.rounds → lane < s.lanes → q < s.racks
    → read_cell s cells section (suc r) lane q ≡ show (slots (objects r lane) q).cell

module _ {X : Type 0} (show : Option X → Cell) (slots : Object Marked → ℕ → Slot X) (section : ℕ) (s : Size) (cells : Cells)
    (objects : ℕ → ℕ → Object Marked) (shown : Shown show slots section s cells objects) (r₀ c₀ q : ℕ) (o : Object Marked) where
  -- none of its slots of this kind changes
  pub unchanged_shown : slots o ≡ slots (objects r₀ c₀) → Shown show slots section s cells (put_at objects r₀ c₀ o)
  unchanged_shown e r lane p a b c =
      shown r lane p a b c
      ∙ ap (λ (f : ℕ → Slot X). show (f p).cell) (sym (unchanged slots objects r₀ c₀ o e r lane))

  module _ (a : Slot X) (e : slots o ≡ put (slots (objects r₀ c₀)) q a) where
    -- a read: the slot keeps its cell
    pub read_shown : a.cell ≡ (slots (objects r₀ c₀) q).cell → Shown show slots section s cells (put_at objects r₀ c₀ o)
    read_shown f =
        changed slots objects r₀ c₀ o q a e
        (λ r lane p x. r < s.rounds → lane < s.lanes → p < s.racks → read_cell s cells section (suc r) lane p ≡ show x.cell)
        (λ b c d. rw f (shown r₀ c₀ q b c d))
        (λ r lane p _. shown r lane p)

    -- a write into the rack's own cell
    module _ (long : length cells.bytes ≡ length_of cells (cell_records s)) (inside : section < 3) (b₀ : r₀ < s.rounds) (l₀ : c₀ < s.lanes) (q₀ : q < s.racks) where
      abbrev new : Cells
      new = write_cell s cells section (suc r₀) c₀ q (show a.cell)

      written_else : (r lane p : ℕ) → (r ≢ r₀) ⊎ ((lane ≢ c₀) ⊎ (p ≢ q)) → r < s.rounds → lane < s.lanes → p < s.racks
          → read_cell s new section (suc r) lane p ≡ read_cell s cells section (suc r) lane p
      written_else r lane p d b l t =
          let here = spot s section r₀ c₀ q inside b₀ l₀ q₀ in
          let there = spot s section r lane p inside b l t in
          load_other cells (cell_index s section (suc r₀) c₀ q) (show a.cell) (cell_index s section (suc r) lane p)
          (λ f. either d
          (λ x. x (let g = same_round s section (suc r) lane p section (suc r₀) c₀ q there here f in omega arith))
          (λ y. either y
          (λ x. x (same_lane s section (suc r) lane p section (suc r₀) c₀ q there here f))
          (λ x. x (same_rack s section (suc r) lane p section (suc r₀) c₀ q there here f))))

      pub write_shown : Shown show slots section s new (put_at objects r₀ c₀ o)
      write_shown =
          changed slots objects r₀ c₀ o q a e
          (λ r lane p x. r < s.rounds → lane < s.lanes → p < s.racks → read_cell s new section (suc r) lane p ≡ show x.cell)
          (λ b l t. cell_written s cells section (suc r₀) c₀ q (show a.cell) long (spot s section r₀ c₀ q inside b₀ l₀ q₀))
          (λ r lane p d b l t. written_else r lane p d b l t ∙ shown r lane p b l t)
