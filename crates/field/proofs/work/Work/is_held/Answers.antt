-- Each return is the case of the definition that the tests on its path choose.
use Rattle.laws.specs.Choice.{◌and◌}
use borrow.Author.Tests.{le-leb, lt-leb}
use Rattle.field.specs.Cells.{within}
use Rattle.field.proofs.work.Work.is_held.Goals as goal

pub returns-then-c-x : goal.returns-then-c-x
unfolding within ◌and◌
returns-then-c-x c = simp (← c.held_to-c.ensures, ← c.cell-x.ensures.0, le-leb _ _ c.if-c-x.true)

pub returns-else-c-x : goal.returns-else-c-x
unfolding within ◌and◌
returns-else-c-x c = simp (← c.held_to-c.ensures, ← c.cell-x.ensures.0, lt-leb _ _ c.if-c-x.false)
