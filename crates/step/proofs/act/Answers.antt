-- In each arm the kind is known, so the call has what its kind requires, and its promise says what the whole step does.
use mathlib.Core.Path.{sym, ◌∙◌}
use Rattle.model.proofs.Sizes.{sizes}
use Rattle.kind.proofs.Places.{first_write_place, first_read_place, second_write_place}
use Rattle.step.proofs.Arms.{in_block, both_decided, at_decisions, settling, offer_taken, answer_taken, first_write_taken, first_read_taken, second_write_taken, second_read_taken_is}
use Rattle.step.proofs.act.Goals as goal

pub kind_of-requires : goal.kind_of-requires
kind_of-requires c = (sizes _ c.requires.0.tested.exact.size).racks_high

pub answer-requires : goal.answer-requires
answer-requires c =
    let p = c.requires in
    at_decisions p.0 _ _ p.1 (sym c.kind_of.ensures ∙ c.in-Answer.is)

pub first_write-requires : goal.first_write-requires
first_write-requires c = both_decided c.requires.0 (first_write_place _ _ (sym c.kind_of.ensures ∙ c.in-FirstWrite.is)).later

pub first_read-requires : goal.first_read-requires
first_read-requires c =
    let k = sym c.kind_of.ensures ∙ c.in-FirstRead.is in
    (in_block c.requires.0 (first_read_place _ _ k).later, k)

pub second_write-requires : goal.second_write-requires
second_write-requires c = in_block c.requires.0 (second_write_place _ _ (sym c.kind_of.ensures ∙ c.in-SecondWrite.is)).later

pub second_read-requires : goal.second_read-requires
second_read-requires c =
    let p = c.requires in
    settling p.0 _ _ p.1 (sym c.kind_of.ensures ∙ c.in-SecondRead.is)

pub returns-in-Offer : goal.returns-in-Offer
returns-in-Offer c = offer_taken _ _ _ _ _ _ (sym c.kind_of.ensures ∙ c.in-Offer.is) c.offer.ensures

pub returns-in-Answer : goal.returns-in-Answer
returns-in-Answer c = answer_taken _ _ _ _ _ _ (sym c.kind_of.ensures ∙ c.in-Answer.is) c.answer.ensures

pub returns-in-FirstWrite : goal.returns-in-FirstWrite
returns-in-FirstWrite c = first_write_taken _ _ _ _ _ _ (sym c.kind_of.ensures ∙ c.in-FirstWrite.is) c.first_write.ensures

pub returns-in-FirstRead : goal.returns-in-FirstRead
returns-in-FirstRead c = first_read_taken _ _ _ _ _ _ (sym c.kind_of.ensures ∙ c.in-FirstRead.is) c.first_read.ensures

pub returns-in-SecondWrite : goal.returns-in-SecondWrite
returns-in-SecondWrite c = second_write_taken _ _ _ _ _ _ (sym c.kind_of.ensures ∙ c.in-SecondWrite.is) c.second_write.ensures

pub returns-in-SecondRead : goal.returns-in-SecondRead
returns-in-SecondRead c = second_read_taken_is _ _ _ _ _ _ (sym c.kind_of.ensures ∙ c.in-SecondRead.is) c.second_read.ensures
