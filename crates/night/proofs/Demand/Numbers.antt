-- In the log table each issuer's cues run 1, 2, 3 and on, as they do in the logs of the history.
use mathlib.Core.Path.{◌≡◌, refl, sym, ap, ◌∙◌}
use mathlib.Core.Logic.{◌≢◌}
use mathlib.Core.Bool.{cond}
use Prim.Native.Nat.{ℕ, suc, ◌<◌}
use native.Mathlib.Omega.{arith}
use borrow.Author.Tests.{eq-eqb, ne_eqb}
use lib.Dec.{eqb}
use Rattle.laws.proofs.Cases.{either, eq_or_ne}
use Rattle.model.specs.declared.Size.{Size}
use Rattle.model.specs.declared.Cue.{Cue}
use Rattle.model.specs.Table.{Card}
use Rattle.protocol.specs.Log.{Log, start, ◌▷◌, size, count, Numbered}
use Rattle.night.specs.Machine.{card, entry_of, cues_of}
use Rattle.night.specs.View.{entry_in, LogView}

-- one for a hit
abbrev hit : ℕ → ℕ → ℕ
hit a b = cond (eqb a b) 1 0

hit_either_way : (a b : ℕ) → hit a b ≡ hit b a
hit_either_way a b =
    either (eq_or_ne a b)
    (λ (e : a ≡ b). rw (eq-eqb a b e, eq-eqb b a (sym e)))
    (λ (d : a ≢ b). rw (ne_eqb a b d, ne_eqb b a (λ e. d (sym e))))

last_entry_is : (l : Log) (c : Cue) → entry_in (l ▷ c) (size l) ≡ c
last_entry_is l c = rw (eq-eqb (size l) (size l) refl)

old_entry : (l : Log) (c : Cue) (place : ℕ) → place < size l → entry_in (l ▷ c) place ≡ entry_in l place
old_entry l c place h = rw (ne_eqb place (size l) (λ e. omega arith))

module _ (s : Size) (c : Card) (rack lane : ℕ) where
  -- the table shows the entries of a log, and perhaps more
  abbrev Shows : Log → Type 0
  Shows l = (place : ℕ) → place < size l → entry_of card s c rack lane place ≡ entry_in l place

  shows_front : (l : Log) (x : Cue) → Shows (l ▷ x) → Shows l
  shows_front l x f place h = f place (omega arith) ∙ old_entry l x place h

  shows_last : (l : Log) (x : Cue) → Shows (l ▷ x) → entry_of card s c rack lane (size l) ≡ x
  shows_last l x f = f (size l) (omega arith) ∙ last_entry_is l x

  cues_count : (issuer : ℕ) (l : Log) → Shows l → cues_of card s c rack lane issuer (size l) ≡ count issuer l
  unfolding cues_of
  cues_count issuer start f = refl
  cues_count issuer (l ▷ x) f =
      let front = cues_count issuer l (shows_front l x f) in
      let e = ap (λ (y : Cue). hit y.issuer issuer) (shows_last l x f) in
      let test = hit_either_way x.issuer issuer in
      omega arith

  numbered_at : (l : Log) → Shows l → Numbered l → (place : ℕ) → place < size l
      → let x = entry_of card s c rack lane place in x.number ≡ suc (cues_of card s c rack lane x.issuer place)
  numbered_at start f h place g = absurd (omega arith)
  numbered_at (l ▷ x) f h place g =
      either (eq_or_ne place (size l))
      (λ (e : place ≡ size l).
      rw (e, shows_last l x f) (h.1 ∙ ap suc (sym (cues_count x.issuer l (shows_front l x f)))))
      (λ (d : place ≢ size l). numbered_at l (shows_front l x f) h.0 place (omega arith))

  pub numbers_shown : (l : Log) → LogView s c.tables.logs rack lane l → Numbered l → (place : ℕ) → place < size l
      → let x = entry_of card s c rack lane place in x.number ≡ suc (cues_of card s c rack lane x.issuer place)
  numbers_shown l view h place g = numbered_at l view.entries h place g
