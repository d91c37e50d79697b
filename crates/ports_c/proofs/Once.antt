-- Every export keeps the promise of its call, and the promise determines the outcome. They stand here, since no crate can stand on a static library.
use Rattle.ports_c.proofs.night_fresh as night_fresh
use Rattle.ports_c.proofs.night_sound as night_sound
use Rattle.ports_c.proofs.night_turn as night_turn
use Rattle.ports_c.proofs.night_log_entry as night_log_entry
use Rattle.ports_c.proofs.night_agree as night_agree
use Rattle.ports_c.proofs.night_longer as night_longer
use Rattle.ports_c.proofs.night_add_cue as night_add_cue
use Rattle.ports_c.proofs.night_code_of as night_code_of
use Rattle.promises.specs.Calls as calls
use Rattle.promises.proofs.Once.{equals}

pub night_fresh_once : calls.NightFreshBy (calls.call night_fresh.Symbol.code night_fresh.Symbol.name)
night_fresh_once = equals (λ M. night_fresh.Met.met)

pub night_sound_once : calls.NightSoundBy (calls.call night_sound.Symbol.code night_sound.Symbol.name)
night_sound_once = equals (λ M. night_sound.Met.met)

pub night_turn_once : calls.NightTurnBy (calls.call night_turn.Symbol.code night_turn.Symbol.name)
night_turn_once = equals (λ M. night_turn.Met.met)

pub night_log_entry_once : calls.NightLogEntryBy (calls.call night_log_entry.Symbol.code night_log_entry.Symbol.name)
night_log_entry_once = equals (λ M. night_log_entry.Met.met)

pub night_agree_once : calls.NightAgreeBy (calls.call night_agree.Symbol.code night_agree.Symbol.name)
night_agree_once = equals (λ M. night_agree.Met.met)

pub night_longer_once : calls.NightLongerBy (calls.call night_longer.Symbol.code night_longer.Symbol.name)
night_longer_once = equals (λ M. night_longer.Met.met)

pub night_add_cue_once : calls.NightAddCueBy (calls.call night_add_cue.Symbol.code night_add_cue.Symbol.name)
night_add_cue_once = equals (λ M. night_add_cue.Met.met)

pub night_code_of_once : calls.NightCodeOfBy (calls.call night_code_of.Symbol.code night_code_of.Symbol.name)
night_code_of_once = equals (λ M. night_code_of.Met.met)
