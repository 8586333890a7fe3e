-- Each return is the case of the definition that the tests on its path choose.
use Rattle.laws.specs.Choice.{when◌then◌else◌}
use borrow.Author.Tests.{le-leb, lt-leb}
use Rattle.keys.specs.Keys.{raised}
use Rattle.keys.proofs.press.raise.Goals as goal

pub returns-then-c : goal.returns-then-c
unfolding raised when◌then◌else◌
returns-then-c c = simp (c.new.ensures, c.with_chosen.ensures, c.if-c.true)

pub returns-then-x-c : goal.returns-then-x-c
unfolding raised when◌then◌else◌
returns-then-x-c c = simp (c.new-then-x-c.ensures, c.with_chosen-then-x-c.ensures, c.if-c.false, ← c.chosen.ensures.0, le-leb _ _ c.if-x-c.true)

pub returns-else-x-c : goal.returns-else-x-c
unfolding raised when◌then◌else◌
returns-else-x-c c = simp (c.new-else-x-c.ensures, c.if-c.false, ← c.chosen.ensures.0, lt-leb _ _ c.if-x-c.false)
