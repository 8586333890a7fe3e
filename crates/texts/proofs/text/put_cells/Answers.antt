-- Each kind has its text.
use Rattle.texts.specs.Texts.{cells_text}
use Rattle.texts.proofs.text.put_cells.Goals as goal

pub returns-in-Integer : goal.returns-in-Integer
unfolding cells_text
returns-in-Integer c = rw (c.in-Integer.is, ← c.numeral.ensures) c.put_numeral.ensures

pub returns-in-Counter : goal.returns-in-Counter
unfolding cells_text
returns-in-Counter c = rw (c.in-Counter.is, ← c.cell_at.ensures) c.put_counter.ensures

pub returns-in-Time : goal.returns-in-Time
unfolding cells_text
returns-in-Time c = rw c.in-Time.is c.put_time.ensures

pub returns-in-Date : goal.returns-in-Date
unfolding cells_text
returns-in-Date c = rw c.in-Date.is c.put_date.ensures

pub returns-in-Switch : goal.returns-in-Switch
unfolding cells_text
returns-in-Switch c = rw (c.in-Switch.is, ← c.of_bits.ensures) c.put_numeral-in-Switch.ensures

pub returns-in-Option : goal.returns-in-Option
unfolding cells_text
returns-in-Option c = rw (c.in-Option.is, ← c.cell_at-in-Option.ensures) c.put_item.ensures

pub returns-in-Trigger : goal.returns-in-Trigger
unfolding cells_text
returns-in-Trigger c = rw c.in-Trigger.is c.put_trigger.ensures
