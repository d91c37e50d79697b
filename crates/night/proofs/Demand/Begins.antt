-- Of two logs that begin with one another, so do the bytes.
use mathlib.Core.Path.{◌≡◌, refl, sym, ap, ◌∙◌}
use mathlib.Core.Logic.{◌⊎◌, inl, inr}
use mathlib.Core.Bool.{true}
use mathlib.Core.List.{List, [], ◌∷◌}
use Prim.Native.Nat.{ℕ, zero, suc, ◌+◌, ◌*◌, ◌/◌, ◌%◌, ◌<◌}
use native.Mathlib.Omega.{arith}
use native.Mathlib.Nat.{zero-mul, mul_comm, mul-add, div-add-mod', mod-lt, div-lt_iff_lt-mul}
use borrow.Author.Tests.{eq-eqb, ne_eqb}
use lib.ListN.{length, get_or, drop, length-take}
use lib.Seq.{get_or-take, get_or-drop}
use Rattle.laws.proofs.Cases.{true_and}
use Rattle.model.specs.declared.Size.{Size}
use Rattle.model.specs.declared.Cue.{Cue}
use Rattle.model.specs.Size.{size_fits, size_up_to, log_records}
use Rattle.model.specs.Form.{store}
use Rattle.model.specs.Record.{Logs, entry_at}
use Rattle.model.specs.InUse.{entry_form}
use Rattle.model.specs.Turn.{turned}
use Rattle.model.specs.Fresh.{fresh_card}
use Rattle.model.specs.Table.{Card, log_start, log_length}
use Rattle.model.specs.Logs.{one_begins}
use Rattle.model.proofs.Record.{Neat, neat_store}
use Rattle.model.proofs.Table.{entry_fits}
use Rattle.model.proofs.Length.{length_most}
use Rattle.steady.proofs.Fresh.{empty_neat}
use Rattle.steady.proofs.Stores.{turn_keeps}
use Rattle.protocol.specs.Log.{Log, size, ◌⊑◌, same, more}
use Rattle.protocol.proofs.Log.{begins_size}
use Rattle.night.specs.Machine.{card, from, reached, log_bytes}
use Rattle.night.specs.View.{entry_in, LogView}

-- lists that agree as far as both go
agreeing : (a b : List ℕ) → ((i : ℕ) → i < length a → i < length b → get_or a i 0 ≡ get_or b i 0) → one_begins a b ≡ true
agreeing [] b f = refl
agreeing (x ∷ a) [] f = refl
agreeing (x ∷ a) (y ∷ b) f =
    true_and (eq-eqb x y (f 0 (omega arith) (omega arith))) (agreeing a b (λ i h g. f (suc i) (omega arith) (omega arith)))

-- nothing is below a product with 0
positive : (w n i : ℕ) → i < w * n → 0 < w
positive zero n i h = let e : 0 * n ≡ 0 = zero-mul n in absurd (omega arith)
positive (suc w) n i h = omega arith

-- a longer log has the same entries
same_entry : {l m : Log} → l ⊑ m → (place : ℕ) → place < size l → entry_in l place ≡ entry_in m place
same_entry same place h = refl
same_entry {l} (more {m} p) place h =
    rw (ne_eqb place (size m) (λ e. omega (arith, begins_size p))) (same_entry p place h)

-- of two logs, as far as both go
pub same_entries : {l m : Log} → (l ⊑ m) ⊎ (m ⊑ l) → (place : ℕ) → place < size l → place < size m → entry_in l place ≡ entry_in m place
same_entries (inl p) place h g = same_entry p place h
same_entries (inr p) place h g = sym (same_entry p place g)

module _ (s : Size) (c : Card) (tidy : Neat (log_records s) c.tables.logs) where
  abbrev logs : Logs
  logs = c.tables.logs

  abbrev w : ℕ
  w = logs.form.width

  module _ (rack lane : ℕ) (there : rack < s.racks) (inside : lane < s.lanes) where
    -- a log's bytes, by its entries
    bytes_within : (i : ℕ) → i < length (log_bytes card s c rack lane) → i < w * log_length s logs rack lane
    unfolding log_bytes
    bytes_within i h = omega (arith, length-take (w * log_length s logs rack lane) (drop (w * log_start s rack lane) logs.bytes))

    byte_at : (i : ℕ) → i < w * log_length s logs rack lane → (place j : ℕ) → i ≡ w * place + j → j < w → place < log_length s logs rack lane
        → get_or (log_bytes card s c rack lane) i 0 ≡ get_or (logs.form.bytes (entry_at logs (log_start s rack lane + place))) j 0
    unfolding log_bytes
    byte_at i h place j e g f =
        let most = length_most logs (log_start s rack lane) s.rounds in
        let start = log_start s rack lane in
        let at : w * start + i ≡ w * (start + place) + j = let d = mul-add w start place in omega arith in
        get_or-take (w * log_length s logs rack lane) (drop (w * start) logs.bytes) i 0 h
        ∙ get_or-drop (w * start) logs.bytes i 0
        ∙ ap (λ (x : ℕ). get_or logs.bytes x 0) at
        ∙ sym (get_or-drop (w * (start + place)) logs.bytes j 0)
        ∙ tidy.neat (start + place) (entry_fits s rack lane place there inside (omega arith)) j g

  module _ (p q lane : ℕ) (lp : p < s.racks) (lq : q < s.racks) (ll : lane < s.lanes) (l m : Log)
      (view : LogView s logs p lane l) (view' : LogView s logs q lane m) (linear : (l ⊑ m) ⊎ (m ⊑ l)) where
    same_cue_at : (place : ℕ) → place < size l → place < size m
        → entry_at logs (log_start s p lane + place) ≡ entry_at logs (log_start s q lane + place)
    same_cue_at place h g = view.entries place h ∙ same_entries linear place h g ∙ sym (view'.entries place g)

    same_byte : (i : ℕ) → i < length (log_bytes card s c p lane) → i < length (log_bytes card s c q lane)
        → get_or (log_bytes card s c p lane) i 0 ≡ get_or (log_bytes card s c q lane) i 0
    same_byte i h g =
        let h' = bytes_within p lane lp ll i h in
        let g' = bytes_within q lane lq ll i g in
        let some : 0 < w = positive w (log_length s logs p lane) i h' in
        let place = i / w in
        let j = i % w in
        let e : i ≡ w * place + j = let d = div-add-mod' i w in let x = mul_comm w place in omega arith in
        let b : j < w = mod-lt i some in
        let a : place < log_length s logs p lane = (div-lt_iff_lt-mul some).1 (rw (mul_comm (log_length s logs p lane) w) h') in
        let a' : place < log_length s logs q lane = (div-lt_iff_lt-mul some).1 (rw (mul_comm (log_length s logs q lane) w) g') in
        let cue = same_cue_at place (omega (arith, view.length)) (omega (arith, view'.length)) in
        byte_at p lane lp ll i h' place j e b a
        ∙ ap (λ (x : Cue). get_or (logs.form.bytes x) j 0) cue
        ∙ sym (byte_at q lane lq ll i g' place j e b a')

    pub bytes_begin : one_begins (log_bytes card s c p lane) (log_bytes card s c q lane) ≡ true
    bytes_begin = agreeing (log_bytes card s c p lane) (log_bytes card s c q lane) same_byte

-- what every store into the log table keeps, a night keeps
module _ (P : Logs → Type 0) (keep : (t : Logs) (i : ℕ) (c : Cue) → P t → P (store t i c)) (s : Size) where
  pub from_keeps : (c : Card) (turns : List (List ℕ)) → P c.tables.logs → P (from card s c turns).tables.logs
  unfolding from
  from_keeps c [] p = p
  from_keeps c (turn ∷ turns) p = from_keeps (turned s c turn).card turns (turn_keeps P keep s c turn p)

-- every log table that the card reaches is as it was written, and of a form that allows as many rounds
module _ (s : Size) (turns : List (List ℕ)) where
  pub reached_neat : Neat (log_records s) (reached card s turns).tables.logs
  unfolding fresh_card
  reached_neat =
      from_keeps (λ l. Neat (log_records s) l) (λ t i x y. neat_store t i x y) s (fresh_card s) turns (empty_neat entry_form (log_records s))

  pub reached_most : size_fits s ≡ true → size_up_to (reached card s turns).tables.logs.form.most s ≡ true
  unfolding fresh_card
  reached_most e = from_keeps (λ l. size_up_to l.form.most s ≡ true) (λ t i x y. y) s (fresh_card s) turns e
