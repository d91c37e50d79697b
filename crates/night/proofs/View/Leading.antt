-- Before its first block a rack has gathered nothing, whichever lane it is asked of.
use mathlib.Core.Path.{◌≡◌, sym, ap, ◌∙◌}
use mathlib.Core.Option.{none}
use Prim.Native.Nat.{ℕ, ◌<◌}
use lib.ListN.{get_or}
use Rattle.model.specs.declared.Size.{Size}
use Rattle.model.specs.declared.Rack as card
use Rattle.model.specs.Table.{first_at, second_at}
use Rattle.model.specs.Kind.{lane_at}
use Rattle.protocol.specs.AdoptCommit.{Marked}
use Rattle.protocol.specs.Object.{taken}
use Rattle.protocol.specs.FirstEdition.{first_edition}
use Rattle.protocol.specs.History.{History}
use Rattle.protocol.proofs.Invariant.{Invariant}
use Rattle.night.specs.View.{first_of, second_of, RackView}
use Rattle.night.proofs.View.Gathered.{no_firsts, no_seconds}

module _ (s : Size) (h : History Marked) (q : ℕ) (r : card.Rack) (inv : Invariant first_edition s.racks s.lanes h) (v : RackView s h q r)
    (none-begun : (lane : ℕ) → taken (h.objects (h.racks q).finished lane) q ≡ 0) where
  abbrev fin : ℕ
  fin = (h.racks q).finished

  pub leading_firsts : (lane i : ℕ) → i < 8 → first_at r i ≡ first_of (get_or ((h.objects (h.racks q).finished lane).firsts q).gathered i none)
  leading_firsts lane i l =
      v.firsts i l
      ∙ ap first_of
      (no_firsts s.racks (h.objects fin (lane_at s r)) (inv.consistent fin (lane_at s r)) q (none-begun (lane_at s r)) i
      ∙ sym (no_firsts s.racks (h.objects fin lane) (inv.consistent fin lane) q (none-begun lane) i))

  pub leading_seconds : (lane i : ℕ) → i < 8 → second_at r i ≡ second_of (get_or ((h.objects (h.racks q).finished lane).seconds q).gathered i none)
  leading_seconds lane i l =
      v.seconds i l
      ∙ ap second_of
      (no_seconds s.racks (h.objects fin (lane_at s r)) (inv.consistent fin (lane_at s r)) q (none-begun (lane_at s r)) i
      ∙ sym (no_seconds s.racks (h.objects fin lane) (inv.consistent fin lane) q (none-begun lane) i))
