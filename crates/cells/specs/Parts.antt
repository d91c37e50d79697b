-- The offers of a rack in one round's part of the offers.
use Rattle.std.specs.Prelude.{List, ℕ, zero, suc, ◌+◌, ◌*◌, get_or}
use Rattle.model.specs.declared.Value.{Value}
use Rattle.model.specs.Form.{stored}
use Rattle.model.specs.Record.{no_value, offered}
use Rattle.model.specs.InUse.{cells_of}

-- those of its first lanes
unfoldable pub offers_in : List ℕ → ℕ → ℕ → List Value → ℕ → List ℕ
offers_in part n rack held zero = part
offers_in part n rack held (suc lane) = stored (cells_of (offers_in part n rack held lane)) (lane * n + rack) (offered (get_or held lane no_value))
