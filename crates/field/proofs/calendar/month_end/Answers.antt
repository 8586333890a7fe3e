-- Each return is the case of the definition that the month chooses.
use Rattle.laws.specs.Choice.{when◌then◌else◌}
use Rattle.field.specs.Calendar.{month_end}
use Rattle.field.proofs.Calendars.{end_short, end_long}
use Rattle.field.proofs.calendar.month_end.Goals as goal

pub returns-then-is_leap : goal.returns-then-is_leap
unfolding month_end when◌then◌else◌
returns-then-is_leap c = simp (c.in-2.is, ← c.is_leap.ensures, c.if-is_leap.true)

pub returns-else-is_leap : goal.returns-else-is_leap
unfolding month_end when◌then◌else◌
returns-else-is_leap c = simp (c.in-2.is, ← c.is_leap.ensures, c.if-is_leap.false)

pub returns-in-4 : goal.returns-in-4
unfolding month_end when◌then◌else◌
returns-in-4 c = end_short _ _ c.in-4.is

pub returns-in_default : goal.returns-in_default
returns-in_default c = search end_long
