-- A round's last step is the read of a second cell, so the rack after it can be made.
use mathlib.Core.Path.{sym, ◌∙◌}
use Rattle.model.proofs.Sizes.{sizes}
use Rattle.kind.proofs.Places.{second_read_place}
use Rattle.step.proofs.Places.{racks_few, lanes_few}
use Rattle.refusal.specs.Tests.{overfull_in}
use Rattle.refusal.proofs.Last.{last_kind}
use Rattle.refusal.proofs.overfull.Goals as goal

pub is_last-requires : goal.is_last-requires
is_last-requires c =
    let a = c.requires.at.round in
    (racks_few a, lanes_few a)

pub returns-then-not-is_last : goal.returns-then-not-is_last
unfolding overfull_in
returns-then-not-is_last c = rw (sym c.is_last.ensures ∙ c.if-not-is_last.true)

pub after_second_read-read-requires : goal.after_second_read-read-requires
after_second_read-read-requires c =
    let p = c.requires in
    let k = last_kind _ _ (sizes _ p.at.round.size) (sym c.is_last.ensures ∙ c.if-not-is_last.false) in
    (record { at = p.at; first_there = p.first_there (second_read_place _ _ k).later }, k)

pub returns : goal.returns
unfolding overfull_in
returns c = rw (sym c.is_last.ensures ∙ c.if-not-is_last.false, ← c.after_second_read-read.ensures) c.too_long.ensures
