-- Each return is the case of the definition that the test chooses.
use Rattle.laws.specs.Choice.{when◌then◌else◌}
use Rattle.field.specs.Profiles.{held_to}
use Rattle.field.proofs.profile.held_to.Goals as goal

pub returns-then-is_open_day : goal.returns-then-is_open_day
unfolding held_to when◌then◌else◌
returns-then-is_open_day c = simp (c.day.ensures, ← c.is_open_day.ensures, c.if-is_open_day.true)

pub returns-else-is_open_day : goal.returns-else-is_open_day
unfolding held_to when◌then◌else◌
returns-else-is_open_day c = simp (c.cell_of.ensures, ← c.is_open_day.ensures, c.if-is_open_day.false)
