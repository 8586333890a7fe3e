-- Each return is the case of the definition that the tests on its path choose.
use native.Mathlib.Omega.{arith}
use borrow.Author.Tests.{lt-leb}
use Rattle.laws.specs.Choice.{◌and◌}
use Rattle.laws.proofs.Cases.{choices}
use Rattle.field.specs.Settings.{step_fits}
use Rattle.field.proofs.settings.step_fits.Goals as goal

pub returns-then-s-ge1 : goal.returns-then-s-ge1
unfolding step_fits
returns-then-s-ge1 c = search (choices, arith)

pub returns-else-s-ge1 : goal.returns-else-s-ge1
unfolding step_fits ◌and◌
returns-else-s-ge1 c = rw (lt-leb _ _ c.if-s-ge1.false)
