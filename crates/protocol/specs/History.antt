-- The whole protocol as a history of n racks and k lanes, one step a turn. Nothing is ever cleared: logs, held values and first lanes are
-- kept by round, and so a rack's offer of a round is what it held when the round began.
-- Rounds count from 0 here: round r is the one before which a rack has finished r rounds.
use Rattle.std.specs.Prelude.{Bool, true, false, cond, ◌&&◌, ◌||◌, List, [], ◌∷◌, ℕ, zero, suc, ◌+◌, eqb, ltb, length}
use Rattle.std.proofs.Math.Option.{Option, none, some}
use Rattle.model.specs.declared.Value.{Value}
use Rattle.model.specs.Record.{no_value}
use Rattle.model.specs.Table.{no_lane}
use Rattle.model.specs.Kind.{lane_of}
use Rattle.protocol.specs.Put.{put, put_at}
use Rattle.protocol.specs.Object.{Object, step, fresh}
use Rattle.protocol.specs.Edition.{Edition, result, news_of}
use Rattle.protocol.specs.Log.{Log, start, size, own_next}
use Rattle.protocol.specs.Settle.{settled_log, next_held}

-- what a rack does next in its round: offer, answer, or a step of a block, the first of which is block 0
pub data Phase : Type 0 where
  offering answering : Phase
  visiting : ℕ → Phase

-- how many rounds it has finished; its phase in the round after these; its first lane by round; its log and its held value by round and lane
pub record Rack : Type 0 where
  pub finished : ℕ
  pub phase : Phase
  pub first : ℕ → ℕ
  pub log : ℕ → ℕ → Log
  pub held : ℕ → ℕ → Value

-- "logs empty, holding its own #1 at place 0 in each lane"
abbrev pub fresh_rack : ℕ → Rack
fresh_rack q = record { finished = 0; phase = offering; first = λ r. no_lane; log = λ r c. start; held = λ r c. own_next q start }

abbrev pub enter : Rack → Phase → Rack
enter a phase = record { finished = a.finished; phase = phase; first = a.first; log = a.log; held = a.held }

-- the lane of a block in its present round
abbrev pub lane_now : Rack → ℕ → ℕ
lane_now a block = lane_of (a.first a.finished) block

-- whether a rack with so many finished rounds is past a point of round r, if it is or is not past it in its present round
unfoldable pub is_past : ℕ → ℕ → Bool → Bool
is_past finished r now = ltb r finished || (eqb r finished && now)

abbrev pub past_offer : Phase → Bool
past_offer offering = false
past_offer answering = true
past_offer (visiting block) = true

abbrev pub past_answer : Phase → Bool
past_answer offering = false
past_answer answering = false
past_answer (visiting block) = true

-- whether it has offered in round r, and whether it has its answer
abbrev pub has_offered : Rack → ℕ → Bool
has_offered a r = is_past a.finished r (past_offer a.phase)

abbrev pub has_answer : Rack → ℕ → Bool
has_answer a r = is_past a.finished r (past_answer a.phase)

-- "A turn is 4 bytes: rack, lane, source, zero."
pub record Turn : Type 0 where
  pub rack : ℕ
  pub lane : ℕ
  pub source : ℕ

-- the racks; the objects and the decided sources by round and lane
pub record History (Y : Type 0) : Type 0 where
  pub racks : ℕ → Rack
  pub objects : ℕ → ℕ → Object Y
  pub decided : ℕ → ℕ → Option ℕ

-- the log that rack q has in lane c, and its entries "in its lanes together"
abbrev pub log_of : {Y : Type 0} → History Y → ℕ → ℕ → Log
log_of s q c = (s.racks q).log (s.racks q).finished c

unfoldable pub sum : ℕ → (ℕ → ℕ) → ℕ
sum zero f = 0
sum (suc k) f = sum k f + f k

abbrev pub entries : {Y : Type 0} → ℕ → History Y → ℕ → ℕ
entries k s q = sum k (λ c. size (log_of s q c))

-- what a source offered in a lane
abbrev pub offer_of : (ℕ → Rack) → ℕ → ℕ → Option ℕ → Value
offer_of racks r c none = no_value
offer_of racks r c (some p) = (racks p).held r c

-- "The value offered by q at m is what this rack proposes in m"; in each other lane "the rack proposes its held value"
unfoldable pub proposal : {Y : Type 0} → History Y → ℕ → ℕ → ℕ → Value
proposal s q r c = cond (eqb c ((s.racks q).first r)) (offer_of s.racks r c (s.decided r c)) ((s.racks q).held r c)

-- the lane is undecided, or decided for p
abbrev pub free_for : Option ℕ → ℕ → Bool
free_for none p = true
free_for (some d) p = eqb d p

abbrev pub with_rack : {Y : Type 0} → History Y → ℕ → Rack → History Y
with_rack s q a = record { racks = put s.racks q a; objects = s.objects; decided = s.decided }

module _ (E : Edition) where
  abbrev pub fresh_history : History E.Second
  fresh_history = record { racks = fresh_rack; objects = λ r c. fresh; decided = λ r c. none }

  -- "The round's last step also settles every lane." "Then round rises by one"
  abbrev pub settled : History E.Second → ℕ → Rack → Rack
  settled s q a =
      let r = a.finished in
      let logs : ℕ → Log = λ c. settled_log (a.log r c) (result E (s.objects r c) q) (news_of E (s.objects r c) q) in
      record {
        finished = suc r;
        phase = offering;
        first = a.first;
        log = put a.log (suc r) logs;
        held = put a.held (suc r) (λ c. next_held q (logs c) (result E (s.objects r c) q));
      }

module _ (E : Edition) (n k : ℕ) where
  -- a block has ended: on to the next, or the round has ended too
  unfoldable pub end_block : History E.Second → ℕ → ℕ → History E.Second
  end_block s q block =
      let a = s.racks q in
      cond (ltb (suc block) k) (with_rack s q (enter a (visiting (suc block)))) (with_rack s q (settled E s q a))

  -- one step of q in the object of lane c
  abbrev pub move : History E.Second → ℕ → ℕ → History E.Second
  move s q c =
      let r = (s.racks q).finished in
      let next = step E.make n (s.objects r c) (record { rack = q; proposal = proposal s q r c }) in
      record { racks = s.racks; objects = put_at s.objects r c next; decided = s.decided }

  abbrev pub is_done : History E.Second → ℕ → ℕ → Bool
  is_done s q c = eqb (length ((s.objects (s.racks q).finished c).seconds q).gathered) n

  abbrev pub visit : History E.Second → ℕ → ℕ → History E.Second
  visit s q block =
      let c = lane_now (s.racks q) block in
      cond (is_done (move s q c) q c) (end_block (move s q c) q block) (move s q c)

  -- the answer names a lane and a source that are there, which has offered and for which the lane is free
  abbrev pub fits_answer : History E.Second → ℕ → ℕ → ℕ → Bool
  fits_answer s r m p = ltb m k && (ltb p n && (has_offered (s.racks p) r && free_for (s.decided r m) p))

  -- "Decision (round, m) becomes q; m is the first lane."
  abbrev pub answer : History E.Second → ℕ → ℕ → ℕ → History E.Second
  answer s q m p =
      let a = s.racks q in
      let r = a.finished in
      let won : Rack = record { finished = r; phase = visiting 0; first = put a.first r m; log = a.log; held = a.held } in
      record { racks = put s.racks q won; objects = s.objects; decided = put_at s.decided r m (some p) }

  unfoldable pub act : History E.Second → Turn → Phase → History E.Second
  act s t offering = with_rack s t.rack (enter (s.racks t.rack) answering)
  act s t answering =
      cond (fits_answer s (s.racks t.rack).finished t.lane t.source) (answer s t.rack t.lane t.source) s
  act s t (visiting block) = visit s t.rack block

  -- a turn of a rack that is not there is refused
  unfoldable pub turn : History E.Second → Turn → History E.Second
  turn s t = cond (ltb t.rack n) (act s t (s.racks t.rack).phase) s

  -- the history after a list of turns, oldest first
  unfoldable pub after : History E.Second → List Turn → History E.Second
  after s [] = s
  after s (t ∷ ts) = after (turn s t) ts

  abbrev pub history : List Turn → History E.Second
  history turns = after (fresh_history E) turns
