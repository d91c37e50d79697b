-- Refusals 2 and 8 never come in a night from a fresh card: every card that is reached is sound, and no log gets longer than R.
use mathlib.Core.Path.{◌≡◌, refl}
use mathlib.Core.Logic.{◌≢◌}
use mathlib.Core.Bool.{Bool, true, false, cond}
use mathlib.Core.List.{List}
use Prim.Native.Nat.{ℕ}
use native.Mathlib.Omega.{arith}
use Rattle.laws.proofs.Cases.{either, bool, clash_bool}
use Rattle.model.specs.declared.Size.{Size}
use Rattle.model.specs.declared.Rack.{Rack}
use Rattle.model.specs.Size.{size_fits}
use Rattle.model.specs.Table.{Tables, Card, rack_at}
use Rattle.model.specs.Turn.{rack_of, lane_named, source_named, bad_record, finished, misnamed, not_offered, decided_else, overfull, refusal_of, turned}
use Rattle.model.proofs.Turns.{good}
use Rattle.night.specs.Machine.{card, reached}
use Rattle.night.proofs.Demand.Tied.{Tie}
use Rattle.night.proofs.Demand.Reached.{history_of, reached_steady, reached_tied}
use Rattle.night.proofs.Demand.Admitted.{steady_number}
use Rattle.night.proofs.Demand.Room.{not_overfull}

-- what holds of every number that a turn may be answered holds of its answer
answer : (P : ℕ → Type 0) (a b c d e : Bool) → P 4 → P 5 → P 6 → P 7 → (e ≡ true → P 8) → P 0
    → P (cond a 4 (cond b 5 (cond c 6 (cond d 7 (cond e 8 0)))))
answer P true b c d e four five six seven eight zero = four
answer P false true c d e four five six seven eight zero = five
answer P false false true d e four five six seven eight zero = six
answer P false false false true e four five six seven eight zero = seven
answer P false false false false true four five six seven eight zero = eight refl
answer P false false false false false four five six seven eight zero = zero

module _ (s : Size) (t : Tables) (rack : ℕ) (r : Rack) (lane source : ℕ) (P : ℕ → Type 0) where
  number_of : P 4 → P 5 → P 6 → P 7 → (overfull s t rack r ≡ true → P 8) → P 0 → P (refusal_of s t rack r lane source)
  unfolding refusal_of
  number_of =
      answer P (finished s r) (misnamed s r lane source) (not_offered s r t.cells lane source) (decided_else s r t.decisions lane source)
      (overfull s t rack r)

module _ (s : Size) (e : size_fits s ≡ true) (turns : List (List ℕ)) (t : List ℕ) where
  abbrev C : Card
  C = reached card s turns

  abbrev number : ℕ
  number = refusal_of s C.tables (rack_of t) (rack_at C.racks (rack_of t)) (lane_named t) (source_named t)

  of_answer : (P : ℕ → Type 0) → P 3 → (bad_record s t ≡ false → P number) → P (turned s C t).number
  of_answer P three rest =
      rw (steady_number s C (reached_steady s e turns) t)
      (either (bool (bad_record s t)) (λ b. rw b three) (λ g. rw g (rest g)))

  pub never_unsound : (turned s (reached card s turns) t).number ≢ 2
  never_unsound =
      of_answer (λ x. x ≢ 2) (omega arith)
      (λ g. number_of s C.tables (rack_of t) (rack_at C.racks (rack_of t)) (lane_named t) (source_named t) (λ x. x ≢ 2)
      (omega arith) (omega arith) (omega arith) (omega arith) (λ o. omega arith) (omega arith))

  pub never_overfull : Tie s → (turned s (reached card s turns) t).number ≢ 8
  never_overfull tie =
      of_answer (λ x. x ≢ 8) (omega arith)
      (λ g. number_of s C.tables (rack_of t) (rack_at C.racks (rack_of t)) (lane_named t) (source_named t) (λ x. x ≢ 8)
      (omega arith) (omega arith) (omega arith) (omega arith)
      (λ o. clash_bool o (not_overfull s C (history_of s turns) (reached_tied s tie e turns) (rack_of t) (good s t g).there))
      (omega arith))
