-- Each return is the case of the definition that the tests on its path choose.
use Rattle.laws.specs.Choice.{when◌then◌else◌}
use Rattle.field.specs.Cells.{started}
use Rattle.field.proofs.work.Work.start.Goals as goal

pub returns-then-in_range : goal.returns-then-in_range
unfolding started when◌then◌else◌
returns-then-in_range c = simp (c.showing.ensures, ← c.number-x.ensures, ← c.in_range.ensures, c.if-in_range.true)

pub returns-else-in_range : goal.returns-else-in_range
unfolding started when◌then◌else◌
returns-else-in_range c = simp (c.showing-else-in_range.ensures, ← c.number-x.ensures, ← c.in_range.ensures, c.if-in_range.false, c.number.ensures)
