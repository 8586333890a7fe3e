-- Each kind's row is the one that the definition has for it.
use Rattle.field.specs.Profiles.{cell_of}
use Rattle.field.proofs.profile.cell_of.Goals as goal

pub returns-in-Integer : goal.returns-in-Integer
returns-in-Integer c = simp (c.in-Integer.is, c.of_integer.ensures c.args.work.cells)

pub returns-in-Counter : goal.returns-in-Counter
unfolding cell_of
returns-in-Counter c = simp (c.counter.ensures, c.in-Counter.is)

pub returns-in-Time : goal.returns-in-Time
unfolding cell_of
returns-in-Time c = simp (c.time.ensures, c.in-Time.is)

pub returns-in-Date : goal.returns-in-Date
returns-in-Date c = simp (c.of_date.ensures, c.in-Date.is)

pub returns-in-Switch : goal.returns-in-Switch
unfolding cell_of
returns-in-Switch c = simp (c.flag.ensures, c.in-Switch.is)

pub returns-in-Option : goal.returns-in-Option
unfolding cell_of
returns-in-Option c = simp (c.option.ensures, c.in-Option.is)

pub returns-in-Trigger : goal.returns-in-Trigger
unfolding cell_of
returns-in-Trigger c = simp (c.ends.ensures, c.in-Trigger.is)
