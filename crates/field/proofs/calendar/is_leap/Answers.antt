-- The tests on the year's place in the cycle, each by its law (proofs/Calendars).
use mathlib.Core.Path.{◌∙◌}
use borrow.Author.Tests.{ne_eqb}
use Rattle.field.proofs.Calendars.{leap_not_fourth, leap_hundred, leap_fourth}
use Rattle.field.proofs.calendar.is_leap.Goals as goal
use Rattle.field.proofs.calendar.is_leap.Goals.{in-100, in_default}

pub returns-after-matches : goal.returns-after-matches
returns-after-matches c = elim c.match-matches.branch [
  | in-100 w ↦ rw w.matches-is (leap_hundred _ _ c.in_cycle.ensures w.in-100.is)
  | in_default w ↦ rw w.matches-is (search (leap_fourth, c.in_cycle.ensures, c.if-year-eq0.true))
]

pub returns-else-year-eq0 : goal.returns-else-year-eq0
returns-else-year-eq0 c = ne_eqb _ _ c.if-year-eq0.false ∙ leap_not_fourth _ c.if-year-eq0.false
