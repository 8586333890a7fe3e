-- Each return is the case of the definition that the tests on its path choose.
use Rattle.laws.specs.Choice.{when◌then◌else◌}
use borrow.Author.Tests.{le-leb, lt-leb}
use Rattle.keys.specs.Keys.{lowered}
use Rattle.keys.proofs.press.lower.Goals as goal

pub returns-then-c : goal.returns-then-c
unfolding lowered when◌then◌else◌
returns-then-c c = simp (c.new.ensures, c.with_chosen.ensures, c.if-c.true)

pub returns-then-c-step : goal.returns-then-c-step
unfolding lowered when◌then◌else◌
returns-then-c-step c = simp (c.new-then-c-step.ensures, c.with_chosen-then-c-step.ensures, c.if-c.false, ← c.chosen-x.ensures.0, le-leb _ _ c.if-c-step.true)

pub returns-else-c-step : goal.returns-else-c-step
unfolding lowered when◌then◌else◌
returns-else-c-step c = simp (c.new-else-c-step.ensures, c.if-c.false, ← c.chosen-x.ensures.0, lt-leb _ _ c.if-c-step.false)
