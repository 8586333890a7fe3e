-- Each return is the case of the definition that the tests on its path choose.
use Rattle.laws.specs.Choice.{when◌then◌else◌}
use Rattle.field.specs.Cells.{storable}
use Rattle.field.proofs.numeral.Numeral.storable.Goals as goal

pub returns-then-minus : goal.returns-then-minus
unfolding storable when◌then◌else◌
returns-then-minus c = simp (← c.shown_by-m.ensures, ← c.minus.ensures, c.if-minus.true)

pub returns-else-minus : goal.returns-else-minus
unfolding storable when◌then◌else◌
returns-else-minus c = simp (← c.shown_by-m.ensures, ← c.minus.ensures, c.if-minus.false)
