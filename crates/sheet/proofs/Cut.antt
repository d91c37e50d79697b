-- What is loaded from the bytes read is what all of cues.rec gives.
use mathlib.Core.Path.{◌≡◌, sym, ap, ◌∙◌}
use mathlib.Core.List.{List}
use Prim.Native.Nat.{ℕ, ◌≤◌}
use native.Mathlib.Omega.{arith}
use lib.ListN.{length, take}
use lib.Seq.{length-take-le}
use Rattle.model.specs.Night.{pieces}
use Rattle.model.specs.Sheet.{Loaded, load_cues}
use Rattle.tell.specs.Cut.{cues_read}
use Rattle.tell.proofs.Cut.{cut}
use Rattle.sheet.specs.Cut.{CuesOf}

pub cues_of_is : (n k : ℕ) (lists room : List ℕ) (count : ℕ) (loaded : Loaded) → count ≤ length room → length room ≡ cues_read
    → loaded ≡ load_cues n k lists 0 (pieces (take count room)) → CuesOf n k lists loaded
cues_of_is n k lists room count loaded h g e =
    record {
      bytes = take count room;
      few = omega (arith, length-take-le count room h);
      all = λ file f. e ∙ (ap (λ (x : List ℕ). load_cues n k lists 0 (pieces x)) (sym f) ∙ cut n k file lists 0);
    }
