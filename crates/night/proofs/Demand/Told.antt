-- What a log query is answered on a steady card that a night comes to: 1 and 2 never come.
use mathlib.Core.Path.{◌≡◌}
use mathlib.Core.Bool.{true, cond}
use Prim.Native.Nat.{ℕ, ◌+◌}
use borrow.Author.Tests.{eq-eqb}
use lib.ListN.{length}
use Rattle.laws.proofs.Cases.{either, bool}
use Rattle.model.specs.declared.Size.{Size}
use Rattle.std.specs.Prelude.{Ok, Err}
use Rattle.model.specs.Size.{size_up_to, log_records}
use Rattle.model.specs.Form.{length_of}
use Rattle.model.specs.Record.{entry_at}
use Rattle.model.specs.Table.{Card, log_start}
use Rattle.model.specs.Logs.{is_there, queried, log_entry}
use Rattle.model.proofs.Sizes.{sizes, fits_size, fits_exact}
use Rattle.steady.proofs.Tested.{card_facts}
use Rattle.steady.proofs.Turn.{Steady}

pub entry_told_is : (s : Size) (c : Card) → Steady s c → size_up_to c.tables.logs.form.most s ≡ true → (rack lane place : ℕ)
    → log_entry s c.tables.logs rack lane place
    ≡ cond (is_there s c.tables.logs rack lane place) (Ok (entry_at c.tables.logs (log_start s rack lane + place))) (Err 9)
unfolding queried log_entry
entry_told_is s c h kept rack lane place =
    let size = fits_size s c.tables h.fit in
    let exact = eq-eqb (length c.tables.logs.bytes) (length_of c.tables.logs (log_records s)) (fits_exact s c.tables h.fit).logs in
    let logs = (card_facts s c (sizes s size).lanes_high h.ok).logs in
    rw (kept, exact, logs)
    (either (bool (is_there s c.tables.logs rack lane place)) (λ e. rw e) (λ e. rw e))
