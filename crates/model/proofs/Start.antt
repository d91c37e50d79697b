-- Where a log lies in a table whose sizes fit.
use mathlib.Core.Path.{◌≡◌}
use mathlib.Core.Bool.{true}
use Prim.Native.Nat.{ℕ, ◌+◌, ◌*◌, ◌-◌, ◌≤◌, ◌<◌}
use native.Mathlib.Omega.{arith}
use Rattle.laws.proofs.Index.{product_le}
use Rattle.model.specs.declared.Size.{Size}
use Rattle.model.specs.Size.{size_fits}
use Rattle.model.specs.InUse.{logs_length}
use Rattle.model.specs.Table.{log_start}
use Rattle.model.proofs.Sizes.{sizes}
use Rattle.model.proofs.Table.{entry_fits}

module _ (s : Size) (rack lane : ℕ) (e : size_fits s ≡ true) (p : rack < s.racks) (q : lane < s.lanes) where
  -- the products on the way to a log's start are small
  pub row_small : rack * s.lanes + lane ≤ 36
  row_small =
      let z = sizes s e in
      let f : rack * s.lanes ≤ 32 = product_le {x = 8} {y = 4} (omega arith) z.lanes_high in
      omega arith

  pub start_small : (rack * s.lanes + lane) * s.rounds ≤ 2304
  start_small = let z = sizes s e in product_le {x = 36} {y = 64} row_small z.rounds_high

  -- a log's records lie within the table
  pub log_fits : 2 * (log_start s rack lane + s.rounds) ≤ logs_length s
  log_fits =
      let z = sizes s e in
      let f = entry_fits s rack lane (s.rounds - 1) p q (omega arith) in
      omega arith
