-- Each return is the case of the definition that the tests on its path choose.
use Rattle.laws.specs.Choice.{when◌then◌else◌}
use native.Mathlib.Omega.{arith}
use Rattle.field.proofs.work.Work.seconds.Goals as goal

pub returns-then-long : goal.returns-then-long
unfolding when◌then◌else◌
returns-then-long c = (simp (c.if-long.true, c.cell.ensures.0), omega (arith, c.cell.ensures.1))

pub returns-else-long : goal.returns-else-long
unfolding when◌then◌else◌
returns-else-long c = (simp c.if-long.false, omega arith)
