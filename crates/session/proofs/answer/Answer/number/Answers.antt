-- Each answer has its case.
use Rattle.session.specs.Answers.{told_number}
use Rattle.session.proofs.answer.Answer.number.Goals as goal

pub returns-in-Taken : goal.returns-in-Taken
unfolding told_number
returns-in-Taken c = simp c.in-Taken.is

pub returns-in-Flash : goal.returns-in-Flash
unfolding told_number
returns-in-Flash c = simp c.in-Flash.is

pub returns-in-Finished : goal.returns-in-Finished
unfolding told_number
returns-in-Finished c = simp c.in-Finished.is c.with_place.ensures

pub returns-in-Fired : goal.returns-in-Fired
unfolding told_number
returns-in-Fired c = simp c.in-Fired.is c.with_place-in-Fired.ensures

pub returns-in-Refused : goal.returns-in-Refused
unfolding told_number
returns-in-Refused c = simp c.in-Refused.is
