-- Each return is the case of the definition that the tests on its path choose; a short year needs no 2000 added (proofs/Calendars).
use mathlib.Core.Bool.{false≢true}
use mathlib.Core.Path.{sym, ◌∙◌}
use Rattle.laws.specs.Choice.{◌and◌}
use Rattle.laws.proofs.Cases.{via}
use Rattle.field.proofs.Calendars.{end_full}
use Rattle.field.proofs.work.is_date.Goals as goal
use Rattle.field.proofs.work.is_date.Goals.{then-is_within, else-is_within}

pub returns-then-is_within-2 : goal.returns-then-is_within-2
unfolding ◌and◌
returns-then-is_within-2 c = elim c.if-is_within.branch [
  | then-is_within w ↦ simp (c.is_within-then-is_within-2.ensures, c.day.ensures, c.month_end.ensures, end_full, ← c.year.ensures, ← w.month.ensures, via c.is_within.ensures w.if-is_within.true, ← w.is_within-then-is_within.ensures, ← w.value-is, c.if-is_within-2.true)
  | else-is_within w ↦ absurd (false≢true (sym (w.value-is ∙ w.if-is_within.false) ∙ c.if-is_within-2.true))
]

pub returns-else-is_within-2 : goal.returns-else-is_within-2
unfolding ◌and◌
returns-else-is_within-2 c = elim c.if-is_within.branch [
  | then-is_within w ↦ simp (c.if-is_within-2.false, ← c.year.ensures, ← w.month.ensures, via c.is_within.ensures w.if-is_within.true, ← w.is_within-then-is_within.ensures, ← w.value-is)
  | else-is_within w ↦ simp (c.if-is_within-2.false, ← c.year.ensures, via c.is_within.ensures w.if-is_within.false)
]
