-- Each kind has its case.
use Rattle.std.proofs.Common.{inl, inr}
use Rattle.laws.specs.Choice.{when◌then◌else◌}
use Rattle.field.specs.Profiles.{profile_of}
use Rattle.texts.specs.Texts.{width_of}
use Rattle.texts.proofs.text.width_of.Goals as goal

pub returns-then-long : goal.returns-then-long
unfolding width_of when◌then◌else◌
returns-then-long c = simp (c.in-Time.is, c.if-long.true)

pub returns-in-Integer : goal.returns-in-Integer
unfolding width_of profile_of
returns-in-Integer c = elim c.in-Integer.is [ inl p ↦ simp (c.profile_of.ensures, p.1) | inr p ↦ simp (c.profile_of.ensures, p.1) ]

pub returns-in-Counter : goal.returns-in-Counter
unfolding width_of
returns-in-Counter c = simp c.in-Counter.is

pub returns-else-long : goal.returns-else-long
unfolding width_of when◌then◌else◌
returns-else-long c = simp (c.in-Time.is, c.if-long.false)

pub returns-in-Date : goal.returns-in-Date
unfolding width_of
returns-in-Date c = simp (c.in-Date.is, c.year_cells.ensures)

pub returns-in-Option : goal.returns-in-Option
unfolding width_of
returns-in-Option c = simp c.in-Option.is

pub returns-in-Trigger : goal.returns-in-Trigger
unfolding width_of
returns-in-Trigger c = simp c.in-Trigger.is
