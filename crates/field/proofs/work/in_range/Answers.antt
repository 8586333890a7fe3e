-- Each kind by what its range comes to (proofs/Ranges).
use Rattle.field.proofs.Bounds.{format_sound, bits_sound}
use Rattle.field.proofs.Ranges.{range_of_integer, range_of_counter, range_of_time, range_of_date, range_of_switch, range_of_option, range_of_trigger}
use Rattle.field.proofs.work.in_range.Goals as goal

pub spans-requires : goal.spans-requires
spans-requires c = rw c.numeral.ensures (format_sound _)

pub spans-requires-in-Switch : goal.spans-requires-in-Switch
spans-requires-in-Switch c = rw c.of_bits.ensures (bits_sound _)

pub returns-in-Integer : goal.returns-in-Integer
returns-in-Integer c = simp (c.spans.ensures, c.numeral.ensures, c.in-Integer.is, range_of_integer)

pub returns-in-Counter : goal.returns-in-Counter
returns-in-Counter c = simp (c.is_within.ensures, c.bias.ensures.0, c.counter.ensures, c.in-Counter.is, range_of_counter)

pub returns-in-Time : goal.returns-in-Time
returns-in-Time c = simp (c.is_time.ensures, c.third.ensures, c.in-Time.is, range_of_time)

pub returns-in-Date : goal.returns-in-Date
returns-in-Date c = simp (c.is_date.ensures, c.in-Date.is, range_of_date)

pub returns-in-Switch : goal.returns-in-Switch
returns-in-Switch c = simp (c.spans-in-Switch.ensures, c.of_bits.ensures, c.in-Switch.is, range_of_switch)

pub returns-in-Option : goal.returns-in-Option
returns-in-Option c = simp (c.is_within-in-Option.ensures, c.option.ensures, c.in-Option.is, range_of_option)

pub returns-in-Trigger : goal.returns-in-Trigger
returns-in-Trigger c = simp (c.in-Trigger.is, range_of_trigger)
