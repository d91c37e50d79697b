-- The tables have passed before the racks are looked at.
use mathlib.Core.Path.{sym, ◌∙◌}
use Rattle.sound.proofs.Clock.{decisions_tested}
use Rattle.sound.proofs.sound.Goals as goal

pub sound_racks-requires : goal.sound_racks-requires
sound_racks-requires c = (c.requires, decisions_tested _ _ (sym c.sound_tables.ensures ∙ c.if-sound_tables.true))
