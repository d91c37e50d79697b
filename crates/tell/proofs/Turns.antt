-- Turns told one after the other are turns told at once.
use mathlib.Core.Path.{◌≡◌, refl, ap, ◌∙◌}
use mathlib.Core.List.{List, [], ◌∷◌, ◌++◌}
use mathlib.Core.Bool.{Bool, true, false, cond, not}
use Prim.Native.Nat.{ℕ, suc, ◌+◌, ◌*◌, ◌-◌, ◌≤◌, ◌<◌, ◌^◌}
use native.Mathlib.Omega.{arith}
use native.Mathlib.Nat.{add-zero}
use native.Mathlib.Numerals.{add-one}
use lib.Dec.{eqb}
use borrow.Author.Tests.{ne_eqb}
use lib.ListN.{length, take, drop, set}
use lib.Seq.{set-get_or}
use Rattle.model.specs.declared.Size.{Size}
use Rattle.model.specs.declared.Rack.{Rack}
use Rattle.model.specs.declared.Refusal.{Refusal}
use Rattle.model.specs.Refusal.{number_of}
use Rattle.model.specs.Table.{Card, Tables, no_rack, rack_at}
use Rattle.model.proofs.Refusals.{not_zero}
use Rattle.model.specs.Sound.{sound}
use Rattle.model.specs.Turn.{Outcome, fits, bad_record, finished, misnamed, not_offered, decided_else, overfull, refusal_of, refusal, turned, rack_of, lane_named, source_named}
use Rattle.model.specs.Night.{after, replies, piece_at, pieces}
use Rattle.model.specs.Sheet.{refused_line, refused_lines, taken_in}
use Rattle.steady.proofs.Turn.{Steady, turn_steady}
use Rattle.steady.proofs.Night.{after_steady}
use Rattle.text.specs.Written.{Written, write}
use Rattle.text.proofs.Written.{behind, moved}
use Rattle.text.proofs.Lines.{refused_most}
use Rattle.turns.specs.Walk.{place_behind}
use Rattle.tell.specs.Turns.{Telling, tell_turns, reply_text, TurnsReady}
use Rattle.turns.proofs.Pieces.{pieces_none}
use Rattle.turns.proofs.Ends.{pieces_next, fewer}
use Rattle.tell.proofs.Parts.{length_replies}

-- one turn played and told
unfoldable pub tell_turn : Size → Card → List ℕ → ℕ → ℕ → ℕ → List ℕ → Telling
tell_turn s card out place index taken turn =
    let outcome = turned s card turn in
    record {
      card = outcome.card;
      text = write out place (reply_text index outcome.number);
      taken = taken + cond (eqb outcome.number 0) 1 0;
    }

-- a choice of two small numbers is small
cond_small : (b : Bool) (x y : ℕ) → x ≤ 8 → y ≤ 8 → cond b x y ≤ 8
cond_small true x y h g = h
cond_small false x y h g = g

pub refusal_small : (s : Size) (card : Card) (turn : List ℕ) → refusal s card turn ≤ 8
unfolding refusal refusal_of
refusal_small s card turn =
    let t = card.tables in
    let r = rack_at card.racks (rack_of turn) in
    let lane = lane_named turn in
    let source = source_named turn in
    cond_small (not (fits s t)) 1 _ (omega arith)
    (cond_small (not (sound s card)) 2 _ (omega arith)
    (cond_small (bad_record s turn) 3 _ (omega arith)
    (cond_small (finished s r) 4 _ (omega arith)
    (cond_small (misnamed s r lane source) 5 _ (omega arith)
    (cond_small (not_offered s r t.cells lane source) 6 _ (omega arith)
    (cond_small (decided_else s r t.decisions lane source) 7 _ (omega arith)
    (cond_small (overfull s t (rack_of turn) r) 8 0 (omega arith) (omega arith))))))))

-- a reply's text is at most a line
reply_most : (index number : ℕ) → index < 2 ^ 64 → number < 2 ^ 64 → length (reply_text index number) ≤ 128
unfolding reply_text
reply_most index number h g = if_line (eqb number 0)
  where
    if_line : (b : Bool) → length (cond b [] (refused_line index number)) ≤ 128
    if_line true = omega arith
    if_line false = refused_most index number h g

-- a turn counts at most one
pub one_most : (b : Bool) → cond b 1 0 ≤ 1
one_most true = omega arith
one_most false = omega arith

-- at most each turn is taken
taken_most : (numbers : List ℕ) → taken_in numbers ≤ length numbers
unfolding taken_in
taken_most [] = omega arith
taken_most (number ∷ numbers) = omega (arith, one_most (eqb number 0), taken_most numbers)

module _ (s : Size) where
  -- one turn by its outcome, its text and its count
  pub told_turn : (card : Card) (out : List ℕ) (place index taken : ℕ) (turn : List ℕ) (o : Outcome) (w : Written) (one : ℕ)
      → o ≡ turned s card turn → w ≡ write out place (reply_text index o.number) → one ≡ cond (eqb o.number 0) 1 0
      → ◌≡◌ {A = Telling} (record { card = o.card; text = w; taken = taken + one }) (tell_turn s card out place index taken turn)
  unfolding tell_turn
  told_turn card out place index taken turn o w one e f g = rw (f, g, e)

  -- one that is taken writes nothing, and one that is refused leaves the racks as they were
  pub told_taken : (card after : Card) (out : List ℕ) (place index taken : ℕ) (turn : List ℕ)
      → ◌≡◌ {A = Outcome} (record { number = 0; card = after }) (turned s card turn)
      → ◌≡◌ {A = Telling} (record { card = after; text = record { bytes = out; place = place }; taken = taken + 1 }) (tell_turn s card out place index taken turn)
  unfolding reply_text write
  told_taken card after out place index taken turn e = told_turn card out place index taken turn _ _ 1 e (rw (add-zero place)) refl

  pub told_refused : (card : Card) (t : Tables) (racks : List Rack) (rack : ℕ) (out : List ℕ) (place index taken number : ℕ) (turn : List ℕ) (refusal : Refusal)
      (w : Written)
      → ◌≡◌ {A = Outcome} (record { number = number_of refusal; card = record { tables = t; racks = set racks rack (rack_at racks rack) } }) (turned s card turn)
      → w ≡ write out place (refused_line index number) → number ≡ number_of refusal
      → ◌≡◌ {A = Telling} (record { card = record { tables = t; racks = racks }; text = w; taken = taken }) (tell_turn s card out place index taken turn)
  unfolding reply_text
  told_refused card t racks rack out place index taken number turn refusal w e f q =
      let none = ne_eqb (number_of refusal) 0 (not_zero refusal) in
      let told = told_turn card out place index taken turn _ w 0 e (rw (none, f, q)) (rw none) in
      rw (add-zero taken, set-get_or racks rack no_rack) at told

  -- no turns
  pub tell_none : (card : Card) (out : List ℕ) (place index taken : ℕ)
      → ◌≡◌ {A = Telling} (record { card = card; text = record { bytes = out; place = place }; taken = taken }) (tell_turns s card out place index taken [])
  unfolding tell_turns after replies refused_lines taken_in write
  tell_none card out place index taken = rw (add-zero place, add-zero taken)

  -- a turn, and those behind it
  pub tell_next : (card : Card) (out : List ℕ) (place index taken : ℕ) (turn : List ℕ) (turns : List (List ℕ)) (t : Telling)
      → t ≡ tell_turn s card out place index taken turn
      → tell_turns s t.card t.text.bytes t.text.place (suc index) t.taken turns ≡ tell_turns s card out place index taken (turn ∷ turns)
  unfolding tell_turns tell_turn after replies refused_lines taken_in reply_text
  tell_next card out place index taken turn turns t e =
      let o = turned s card turn in
      let rest = replies s o.card turns in
      let first : List ℕ = cond (eqb o.number 0) [] (refused_line index o.number) in
      let text : write t.text.bytes t.text.place (refused_lines (suc index) rest) ≡ write out place (first ++ refused_lines (suc index) rest) =
      behind out place first (refused_lines (suc index) rest) (ap (λ (x : Telling). x.text) e) refl
      in
      let count : t.taken + taken_in rest ≡ taken + (cond (eqb o.number 0) 1 0 + taken_in rest) =
      let f = ap (λ (x : Telling). x.taken) e in omega arith
      in
      let same : t.card ≡ o.card = ap (λ (x : Telling). x.card) e in
      rw same (λ i. record { card = after s o.card turns; text = text i; taken = count i })

  -- what a turn told leaves
  pub record TurnMoved (card : Card) (out : List ℕ) (place taken : ℕ) (t : Telling) : Type 0 where
    pub steady : Steady s t.card
    pub same : length t.text.bytes ≡ length out
    pub near : t.text.place ≤ place + 128
    pub more : t.taken ≤ taken + 1

  pub turn_moved : (card : Card) (out : List ℕ) (place index taken : ℕ) (turn : List ℕ) (t : Telling)
      → t ≡ tell_turn s card out place index taken turn → Steady s card → index < 2 ^ 64 → TurnMoved card out place taken t
  unfolding tell_turn turned
  turn_moved card out place index taken turn t e steady h =
      let number = refusal s card turn in
      let small = refusal_small s card turn in
      let m = moved out place (reply_text index number) (ap (λ (x : Telling). x.text) e) (reply_most index number h (omega arith)) in
      let f = ap (λ (x : Telling). x.taken) e in
      let g = one_most (eqb number 0) in
      record {
        steady = rw (ap (λ (x : Telling). x.card) e) (turn_steady s card turn steady);
        same = m.same;
        near = m.near;
        more = omega arith;
      }

  -- what turns told leave, however large their indices: the card steady, and at most each turn taken
  pub record TurnsKept (taken count : ℕ) (t : Telling) : Type 0 where
    pub steady : Steady s t.card
    pub more : t.taken ≤ taken + count

  pub turns_kept : (turns : List (List ℕ)) (card : Card) (out : List ℕ) (place index taken : ℕ) {t : Telling}
      → t ≡ tell_turns s card out place index taken turns → Steady s card → TurnsKept taken (length turns) t
  unfolding tell_turns
  turns_kept turns card out place index taken e h =
      rw e
      (record {
        steady = after_steady s card turns h;
        more = omega (arith, taken_most (replies s card turns), length_replies s card turns);
      })

  -- what they leave where their indices fit 64 bits: that, and at most a line of each turn
  pub record TurnsMoved (out : List ℕ) (place taken count : ℕ) (t : Telling) : Type 0 where
    pub steady : Steady s t.card
    pub same : length t.text.bytes ≡ length out
    pub near : t.text.place ≤ place + 128 * count
    pub more : t.taken ≤ taken + count

  turns_end : (turns : List (List ℕ)) (card : Card) (out : List ℕ) (place index taken : ℕ) → Steady s card → index + length turns < 2 ^ 64
      → TurnsMoved out place taken (length turns) (tell_turns s card out place index taken turns)
  turns_end [] card out place index taken h few =
      rw (← tell_none card out place index taken) (record { steady = h; same = refl; near = omega arith; more = omega arith })
  turns_end (turn ∷ turns) card out place index taken h few =
      let t = tell_turn s card out place index taken turn in
      let m = turn_moved card out place index taken turn t refl h (omega arith) in
      let rest = turns_end turns t.card t.text.bytes t.text.place (suc index) t.taken m.steady (omega arith) in
      let next = tell_next card out place index taken turn turns t refl in
      let kept = turns_kept (turn ∷ turns) card out place index taken next h in
      rw (← next)
      (record {
        steady = kept.steady;
        same = rest.same ∙ m.same;
        near = omega (arith, rest.near, m.near);
        more = kept.more;
      })

  pub turns_moved : (turns : List (List ℕ)) (card : Card) (out : List ℕ) (place index taken : ℕ) {t : Telling}
      → t ≡ tell_turns s card out place index taken turns → Steady s card → index + length turns < 2 ^ 64
      → TurnsMoved out place taken (length turns) t
  turns_moved turns card out place index taken e h few = rw e (turns_end turns card out place index taken h few)

  -- the records before a place told, and those from there on to tell
  pub record Going (card₀ : Card) (bytes out₀ : List ℕ) (index₀ : ℕ) (t : Telling) (number at : ℕ) : Type 0 where
    pub steady : Steady s t.card
    pub same : length t.text.bytes ≡ length out₀
    pub room : t.text.place + 128 * length (pieces (drop at bytes)) ≤ length out₀
    pub few : number + length (pieces (drop at bytes)) < 2 ^ 64
    pub fewer : t.taken ≤ number
    pub left : tell_turns s t.card t.text.bytes t.text.place number t.taken (pieces (drop at bytes))
        ≡ tell_turns s card₀ out₀ 0 index₀ 0 (pieces bytes)

  module _ (card₀ : Card) (bytes out₀ : List ℕ) (index₀ : ℕ) where
    pub going_first : TurnsReady s card₀ bytes out₀ index₀
        → Going card₀ bytes out₀ index₀ (record { card = card₀; text = record { bytes = out₀; place = 0 }; taken = 0 }) index₀ 0
    going_first r =
        record {
          steady = record { shape = r.shape; fit = r.fit; ok = r.ok };
          same = refl;
          room = omega (arith, r.room);
          few = r.few;
          fewer = omega arith;
          left = refl;
        }

    pub going_next : (t u : Telling) (number at end : ℕ) → Going card₀ bytes out₀ index₀ t number at → at < length bytes
        → end ≡ place_behind at (piece_at bytes at)
        → u ≡ tell_turn s t.card t.text.bytes t.text.place number t.taken (take (end - at) (drop at bytes))
        → Going card₀ bytes out₀ index₀ u (number + 1) end
    going_next t u number at end g h e f =
        let m = turn_moved t.card t.text.bytes t.text.place number t.taken (take (end - at) (drop at bytes)) u f g.steady (omega (arith, g.few)) in
        let n = fewer bytes at end h e in
        record {
          steady = m.steady;
          same = m.same ∙ g.same;
          room = omega (arith, g.room, m.near);
          few = omega (arith, g.few);
          fewer = omega (arith, g.fewer, m.more);
          left = rw add-one
              (tell_next t.card t.text.bytes t.text.place number t.taken _ (pieces (drop end bytes)) u f
              ∙ rw (← pieces_next bytes at end h e) g.left);
        }

    pub going_last : (t : Telling) (number at : ℕ) → Going card₀ bytes out₀ index₀ t number at → length bytes ≤ at
        → t ≡ tell_turns s card₀ out₀ 0 index₀ 0 (pieces bytes)
    going_last t number at g h =
        tell_none t.card t.text.bytes t.text.place number t.taken ∙ rw (pieces_none bytes at h) at g.left
