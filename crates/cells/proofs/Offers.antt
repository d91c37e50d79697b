-- The offers stored in the part of one round, said of the whole cell table.
use mathlib.Core.Path.{◌≡◌, refl, sym, ap, ◌∙◌}
use mathlib.Core.List.{List, ◌++◌}
use Prim.Native.Nat.{ℕ, zero, suc, ◌+◌, ◌*◌, ◌-◌, ◌≤◌, ◌<◌}
use native.Mathlib.Omega.{arith}
use lib.ListN.{length, get_or, take, drop, take-append-drop, length-drop}
use lib.Seq.{take_at, drop_at, length-take-le}
use Rattle.laws.proofs.Index.{cell_below}
use Rattle.model.specs.declared.Size.{Size}
use Rattle.model.specs.declared.Value.{Value}
use Rattle.model.specs.declared.Cell.{Cell}
use Rattle.model.specs.declared.Rack.{Rack}
use Rattle.model.specs.Form.{stored, store}
use Rattle.model.specs.Record.{no_value, offered, Cells}
use Rattle.model.specs.InUse.{cells_of}
use Rattle.model.specs.Table.{offers, cell_index}
use Rattle.model.specs.Step.{offers_of}
use Rattle.model.proofs.Record.{length_store, store_part}
use Rattle.cells.specs.Parts.{offers_in}
use Rattle.cells.proofs.Room.{in_part}

-- a record stored in the middle one of three lists
store_mid : (a p b : List ℕ) (f i : ℕ) (c : Cell) → length a ≡ 8 * f → 8 * i + 8 ≤ length p
    → a ++ (stored (cells_of p) i c ++ b) ≡ stored (cells_of (a ++ (p ++ b))) (f + i) c
store_mid a p b f i c e h =
    simp (take_at a (p ++ b) (8 * f) e, drop_at a (p ++ b) (8 * f) e, take_at p b (length p) refl, drop_at p b (length p) refl)
    at (store_part (cells_of (a ++ (p ++ b))) f i (length p) c h)

store_next : (a p b : List ℕ) (f i : ℕ) (c : Cell) → length a ≡ 8 * f → 8 * i + 8 ≤ length p
    → (x : Cells) (k : ℕ) → k ≡ f + i → cells_of (a ++ (p ++ b)) ≡ x → cells_of (a ++ (stored (cells_of p) i c ++ b)) ≡ store x k c
store_next a p b f i c e h x k g y =
    ap cells_of (store_mid a p b f i c e h) ∙ ap (λ (z : Cells). store z (f + i) c) y ∙ ap (λ (j : ℕ). store x j c) (sym g)

pub length_offers : (part : List ℕ) (n rack : ℕ) (held : List Value) (lane : ℕ) → length (offers_in part n rack held lane) ≡ length part
unfolding offers_in
length_offers part n rack held zero = refl
length_offers part n rack held (suc lane) =
    length_store (cells_of (offers_in part n rack held lane)) (lane * n + rack) (offered (get_or held lane no_value)) ∙ length_offers part n rack held lane

-- the part of m bytes that starts at record f holds the offers of the rack's round
module _ (s : Size) (cells : List ℕ) (rack : ℕ) (r : Rack) (f m : ℕ) (start : f ≡ (r.round - 1) * s.lanes * s.racks)
    (whole : m ≡ 8 * (s.lanes * s.racks)) (fits : 8 * f + m ≤ length cells) (there : rack < s.racks) where
  pub offers_part : (lane : ℕ) → lane ≤ s.lanes
      → cells_of (take (8 * f) cells ++ (offers_in (take m (drop (8 * f) cells)) s.racks rack r.held lane ++ drop m (drop (8 * f) cells)))
      ≡ offers_of s (cells_of cells) rack r lane
  unfolding offers_in offers_of
  offers_part zero h = rw (take-append-drop m (drop (8 * f) cells), take-append-drop (8 * f) cells)
  offers_part (suc lane) h =
      let part = take m (drop (8 * f) cells) in
      let before = offers_in part s.racks rack r.held lane in
      let c = offered (get_or r.held lane no_value) in
      let e : length before ≡ m =
      length_offers part s.racks rack r.held lane
      ∙ length-take-le m (drop (8 * f) cells) (rw length-drop (omega arith))
      in
      let b = cell_below {i = lane} {k = s.lanes} {r = rack} {n = s.racks} (omega arith) there in
      let i : cell_index s offers r.round lane rack ≡ f + (lane * s.racks + rack) =
      omega (arith, in_part s offers r.round lane rack)
      in
      store_next (take (8 * f) cells) before (drop m (drop (8 * f) cells)) f (lane * s.racks + rack) c
      (length-take-le (8 * f) cells (omega arith)) (omega arith) (offers_of s (cells_of cells) rack r lane) (cell_index s offers r.round lane rack) i
      (offers_part lane (omega arith))
