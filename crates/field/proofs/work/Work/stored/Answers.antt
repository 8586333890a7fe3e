-- Each return is the case of the definition that the tests on its path choose.
use Rattle.field.specs.Cells.{stored_in}
use Rattle.field.proofs.Bounds.{format_sound, bits_sound}
use Rattle.field.proofs.work.Work.stored.Goals as goal

pub of_digits-requires : goal.of_digits-requires
of_digits-requires c = rw c.numeral.ensures (format_sound _)

pub of_digits-requires-in-Switch : goal.of_digits-requires-in-Switch
of_digits-requires-in-Switch c = rw c.of_bits.ensures (bits_sound _)

pub returns-in-Integer : goal.returns-in-Integer
unfolding stored_in
returns-in-Integer c = simp (c.of_digits.ensures, c.numeral.ensures, c.in-Integer.is)

pub returns-in-Counter : goal.returns-in-Counter
unfolding stored_in
returns-in-Counter c = simp (c.bias.ensures.0, c.cell.ensures.0, c.in-Counter.is)

pub returns-in-Time : goal.returns-in-Time
unfolding stored_in
returns-in-Time c = simp (c.cell-in-Time.ensures.0, c.cell-in-Time-2.ensures.0, c.seconds.ensures.0, c.in-Time.is)

pub returns-in-Date : goal.returns-in-Date
unfolding stored_in
returns-in-Date c = simp (c.cell-in-Date.ensures.0, c.cell-in-Date-2.ensures.0, c.cell-in-Date-3.ensures.0, c.in-Date.is)

pub returns-in-Switch : goal.returns-in-Switch
unfolding stored_in
returns-in-Switch c = simp (c.of_digits-in-Switch.ensures, c.of_bits.ensures, c.in-Switch.is)

pub returns-in-Option : goal.returns-in-Option
unfolding stored_in
returns-in-Option c = simp (c.cell-in-Option.ensures.0, c.in-Option.is)

pub returns-in-Trigger : goal.returns-in-Trigger
unfolding stored_in
returns-in-Trigger c = simp c.in-Trigger.is
