-- What the inner turn requires: what tests 1 and 2 establish.
use Rattle.std.specs.Prelude.{◌≡◌, true}
use Rattle.model.specs.declared.Size.{Size}
use Rattle.model.specs.Table.{Card}
use Rattle.model.specs.Turn.{fits}
use Rattle.model.specs.Sound.{sound}

pub record Playable (s : Size) (card : Card) : Type 0 where
  pub fit : fits s card.tables ≡ true
  pub ok : sound s card ≡ true
