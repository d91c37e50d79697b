-- A turn of a rack in one of its blocks, in the history: which step its object takes, and whether that ends the block.
use mathlib.Core.Path.{◌≡◌, ap}
use mathlib.Core.Logic.{◌≢◌}
use mathlib.Core.Bool.{true}
use mathlib.Core.Option.{some}
use Prim.Native.Nat.{ℕ, suc, ◌+◌, ◌≤◌, ◌<◌}
use native.Mathlib.Omega.{arith}
use borrow.Author.Tests.{eq-eqb, ne_eqb, lt-ltb}
use lib.ListN.{length}
use Rattle.model.specs.declared.Size.{Size}
use Rattle.model.specs.declared.Value.{Value}
use Rattle.model.specs.declared.Rack as card
use Rattle.model.specs.Size.{block_steps}
use Rattle.protocol.specs.AdoptCommit.{Marked}
use Rattle.protocol.specs.Object.{Object, Move, write_first, read_first, write_second, read_second, step, taken}
use Rattle.protocol.specs.FirstEdition.{first_edition}
use Rattle.protocol.specs.History.{History, Turn, proposal, end_block, move, act, turn}
use Rattle.protocol.specs.Clock.{accepts_in, accepts}
use Rattle.protocol.proofs.Put.{put_at_same}
use Rattle.protocol.proofs.Object.{Consistent, step_consistent}
use Rattle.protocol.proofs.Steps.{own_move_is}
use Rattle.protocol.proofs.Ranges.{Kind, first_write, first_read, second_write, second_read_is, over, kinds, seconds_read_is}
use Rattle.protocol.proofs.Invariant.{Invariant}
use Rattle.night.proofs.View.Standing.{Visiting, lane, object}

module _ (n : ℕ) (o : Object Marked) (q : ℕ) (v : Value) (o' : Object Marked) where
  to_first_write : Kind first_edition.make n o q v o' → taken o q ≡ 0 → o' ≡ write_first o q v
  to_first_write (first_write t e) h = e
  to_first_write (first_read i l t g e) h = absurd (omega arith)
  to_first_write (second_write x t f e) h = absurd (omega arith)
  to_first_write (second_read_is i l t g e) h = absurd (omega arith)
  to_first_write (over t e) h = absurd (omega arith)

  to_first_read : Kind first_edition.make n o q v o' → 1 ≤ taken o q → taken o q ≤ n → o' ≡ read_first o q
  to_first_read (first_write t e) h g = absurd (omega arith)
  to_first_read (first_read i l t f e) h g = e
  to_first_read (second_write x t f e) h g = absurd (omega arith)
  to_first_read (second_read_is i l t f e) h g = absurd (omega arith)
  to_first_read (over t e) h g = absurd (omega arith)

  to_second_write : Kind first_edition.make n o q v o' → taken o q ≡ n + 1
      → (x : Value) × ((o.firsts q).cell ≡ some x) × (o' ≡ write_second o q (first_edition.make x (o.firsts q).gathered))
  to_second_write (first_write t e) h = absurd (omega arith)
  to_second_write (first_read i l t g e) h = absurd (omega arith)
  to_second_write (second_write x t f e) h = (x, f, e)
  to_second_write (second_read_is i l t g e) h = absurd (omega arith)
  to_second_write (over t e) h = absurd (omega arith)

  to_second_read : Kind first_edition.make n o q v o' → n + 2 ≤ taken o q → taken o q < n + 2 + n → o' ≡ read_second o q
  to_second_read (first_write t e) h g = absurd (omega arith)
  to_second_read (first_read i l t f e) h g = absurd (omega arith)
  to_second_read (second_write x t f e) h g = absurd (omega arith)
  to_second_read (second_read_is i l t f e) h g = e
  to_second_read (over t e) h g = absurd (omega arith)

module _ (s : Size) (h : History Marked) (t : Turn) (r : card.Rack) (inv : Invariant first_edition s.racks s.lanes h)
    (there : t.rack < s.racks) (w : Visiting s h t.rack r) where
  abbrev q : ℕ
  q = t.rack

  abbrev pub r₀ : ℕ
  r₀ = (h.racks q).finished

  abbrev pub c₀ : ℕ
  c₀ = lane s h q r w

  abbrev pub old : Object Marked
  old = object s h q r w

  abbrev pub m₀ : Move
  m₀ = record { rack = q; proposal = proposal h q r₀ c₀ }

  abbrev pub new : Object Marked
  new = step first_edition.make s.racks old m₀

  -- the history when the object has taken its step
  abbrev pub moved : History Marked
  moved = move first_edition s.racks s.lanes h q c₀

  kind : Kind first_edition.make s.racks old q (proposal h q r₀ c₀) new
  kind = kinds first_edition.make s.racks old m₀ (inv.consistent r₀ c₀)

  pub writes_first : taken old q ≡ 0 → new ≡ write_first old q (proposal h q r₀ c₀)
  writes_first = to_first_write s.racks old q (proposal h q r₀ c₀) new kind

  pub reads_first : 1 ≤ taken old q → taken old q ≤ s.racks → new ≡ read_first old q
  reads_first = to_first_read s.racks old q (proposal h q r₀ c₀) new kind

  pub writes_second : taken old q ≡ s.racks + 1
      → (x : Value) × ((old.firsts q).cell ≡ some x) × (new ≡ write_second old q (first_edition.make x (old.firsts q).gathered))
  writes_second = to_second_write s.racks old q (proposal h q r₀ c₀) new kind

  pub reads_second : s.racks + 2 ≤ taken old q → new ≡ read_second old q
  unfolding block_steps
  reads_second low = let p = w.at.below in to_second_read s.racks old q (proposal h q r₀ c₀) new kind low (omega arith)

  pub one_more : taken new q ≡ suc (taken old q)
  unfolding block_steps
  one_more = let p = w.at.below in let e = own_move_is first_edition.make s.racks old m₀ (inv.consistent r₀ c₀) in omega arith

  pub new_consistent : Consistent first_edition.make s.racks new
  new_consistent = step_consistent first_edition.make s.racks old m₀ (inv.consistent r₀ c₀)

  pub is_new : moved.objects r₀ c₀ ≡ new
  is_new = put_at_same h.objects r₀ c₀ new

  pub accepted_here : accepts first_edition s.racks s.lanes h t ≡ true
  unfolding accepts accepts_in
  accepted_here = rw (lt-ltb q s.racks there, w.is)

  seconds_new : length ((moved.objects r₀ c₀).seconds q).gathered ≡ length (new.seconds q).gathered
  seconds_new = ap (λ (o : Object Marked). length (o.seconds q).gathered) is_new

  pub goes_on : taken new q ≢ block_steps s → turn first_edition s.racks s.lanes h t ≡ moved
  unfolding turn act block_steps
  goes_on d =
      let e = seconds_read_is first_edition.make s.racks new new_consistent q in
      let f = seconds_new in
      let p = w.at.below in
      let g = one_more in
      rw (lt-ltb q s.racks there, w.is, ne_eqb (length ((moved.objects r₀ c₀).seconds q).gathered) s.racks (λ x. omega (arith, d)))

  pub ends : taken new q ≡ block_steps s
      → turn first_edition s.racks s.lanes h t ≡ end_block first_edition s.racks s.lanes moved q w.block
  unfolding turn act block_steps
  ends c =
      let e = seconds_read_is first_edition.make s.racks new new_consistent q in
      let f = seconds_new in
      rw (lt-ltb q s.racks there, w.is, eq-eqb (length ((moved.objects r₀ c₀).seconds q).gathered) s.racks (omega arith))
