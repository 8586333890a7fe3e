-- A counter is in range by its one cell.
use Rattle.laws.specs.Choice.{◌and◌}
use Rattle.field.specs.Cells.{within}
use Rattle.field.proofs.Ranges.{range_of_counter}
use borrow.Author.Tests.{le-leb, lt-leb}
use Rattle.quick.proofs.fixed.counter_in_range.Goals as goal

pub returns-then-s-x : goal.returns-then-s-x
unfolding within ◌and◌
returns-then-s-x c = simp (range_of_counter, ← c.biased_in-x.ensures, le-leb _ _ c.if-s-x.true)

pub returns-else-s-x : goal.returns-else-s-x
unfolding within ◌and◌
returns-else-s-x c = simp (range_of_counter, ← c.biased_in-x.ensures, lt-leb _ _ c.if-s-x.false)
