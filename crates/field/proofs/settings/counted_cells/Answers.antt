-- Each return is the case of the definition that the tests on its path choose.
use Rattle.laws.specs.Choice.{when◌then◌else◌}
use borrow.Author.Tests.{lt-ltb, le-ltb}
use Rattle.field.specs.Settings.{counted_cells}
use Rattle.field.proofs.settings.counted_cells.Goals as goal

pub returns-then-x-lt32768 : goal.returns-then-x-lt32768
unfolding counted_cells when◌then◌else◌
returns-then-x-lt32768 c = simp (c.digit_count.ensures.0, lt-ltb _ _ c.if-x-lt32768.true)

pub returns-else-x-lt32768 : goal.returns-else-x-lt32768
unfolding counted_cells when◌then◌else◌
returns-else-x-lt32768 c = simp (c.digit_count-else-x-lt32768.ensures.0, le-ltb _ _ c.if-x-lt32768.false)
