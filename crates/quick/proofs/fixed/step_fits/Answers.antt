-- Each return is the case of the definition that the tests on its path choose.
use Rattle.laws.specs.Choice.{◌and◌}
use Rattle.field.specs.Settings.{step_fits}
use borrow.Author.Tests.{le-leb, lt-leb}
use Rattle.quick.proofs.fixed.step_fits.Goals as goal

pub returns-then-s-ge1 : goal.returns-then-s-ge1
unfolding step_fits ◌and◌
returns-then-s-ge1 c = simp (le-leb _ _ c.if-s-ge1.true)

pub returns-else-s-ge1 : goal.returns-else-s-ge1
unfolding step_fits ◌and◌
returns-else-s-ge1 c = simp (lt-leb _ _ c.if-s-ge1.false)
