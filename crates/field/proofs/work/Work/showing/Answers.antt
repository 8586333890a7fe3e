-- Each return is the case of the definition that the tests on its path choose.
use Rattle.field.specs.Cells.{cells_of, work_of}
use Rattle.laws.specs.Overwrite.{fit}
use Rattle.field.proofs.Bounds.{format_sound, bits_sound, format_based, bits_based}
use Rattle.field.proofs.work.Work.showing.Goals as goal

pub in_digits-requires : goal.in_digits-requires
in_digits-requires c = record { sound = rw c.numeral.ensures (format_sound _); based = rw c.numeral.ensures (format_based _) }

pub in_digits-requires-in-Switch : goal.in_digits-requires-in-Switch
in_digits-requires-in-Switch c = record { sound = rw c.of_bits.ensures (bits_sound _); based = rw c.of_bits.ensures (bits_based _) }

pub returns-in-Integer : goal.returns-in-Integer
unfolding cells_of
returns-in-Integer c = simp (c.in_digits.ensures, c.numeral.ensures, c.in-Integer.is)

pub returns-in-Counter : goal.returns-in-Counter
unfolding cells_of work_of fit
returns-in-Counter c = simp (c.three.ensures, c.bias.ensures.0, c.in-Counter.is)

pub returns-in-Time : goal.returns-in-Time
unfolding cells_of
returns-in-Time c = simp (c.three-in-Time.ensures, c.third.ensures, c.in-Time.is)

pub returns-in-Date : goal.returns-in-Date
unfolding cells_of
returns-in-Date c = simp (c.three-in-Date.ensures, c.in-Date.is)

pub returns-in-Switch : goal.returns-in-Switch
unfolding cells_of
returns-in-Switch c = simp (c.in_digits-in-Switch.ensures, c.of_bits.ensures, c.in-Switch.is)

pub returns-in-Option : goal.returns-in-Option
unfolding cells_of work_of fit
returns-in-Option c = simp (c.three-in-Option.ensures, c.in-Option.is)

pub returns-in-Trigger : goal.returns-in-Trigger
unfolding cells_of work_of fit
returns-in-Trigger c = simp (c.three-in-Trigger.ensures, c.in-Trigger.is)
