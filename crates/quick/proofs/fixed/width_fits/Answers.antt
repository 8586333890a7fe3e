-- Each return is the case of the definition that the tests on its path choose.
use Rattle.laws.specs.Choice.{◌and◌}
use Rattle.field.specs.Settings.{width_fits}
use borrow.Author.Tests.{le-leb, lt-leb}
use Rattle.quick.proofs.fixed.width_fits.Goals as goal

pub returns-then-counted_cells-s : goal.returns-then-counted_cells-s
unfolding width_fits ◌and◌
returns-then-counted_cells-s c = simp (← c.counted_cells.ensures, ← c.counted_cells-then-counted_cells-s.ensures, le-leb _ _ c.if-counted_cells-s.true)

pub returns-else-counted_cells-s : goal.returns-else-counted_cells-s
unfolding width_fits ◌and◌
returns-else-counted_cells-s c = simp (← c.counted_cells.ensures, lt-leb _ _ c.if-counted_cells-s.false)
