-- A card filled afresh is steady, and stays so while its turns are played.
use mathlib.Core.Path.{refl}
use native.Mathlib.Omega.{arith}
use Rattle.model.proofs.Sizes.{fits_exact}
use Rattle.model.proofs.Refusals.{not_zero}
use Rattle.tell.proofs.Steady.{filled_steady, filled_taken, steady_size, steady_logs, steady_round}
use Rattle.sheet.proofs.print_night.Goals as goal

pub unreachable-requires : goal.unreachable-requires
unreachable-requires g c = not_zero _ (filled_taken _ _ _ _ _ c.in_default.ensures c.requires.fit)

pub play_all-requires : goal.play_all-requires
play_all-requires g c = (
  refl,
  record {
    played = record { steady = filled_steady _ _ _ _ _ c.in-Ok.ensures c.requires.fit; fewer = omega arith };
    few = omega arith;
  },
)

pub print_played-requires : goal.print_played-requires
print_played-requires g c =
    let played = c.play_all.ensures in (
      played.fewer,
      record {
        fit = steady_size _ _ played.steady;
        exact = (fits_exact _ _ played.steady.fit).logs;
        ok = steady_logs _ _ played.steady;
        lists_fit_is = c.requires.lists_fit_is;
        started = steady_round _ _ played.steady;
      },
    )
