-- Each return is the case of the definition that the tests on its path choose.
use native.Mathlib.Omega.{arith}
use Rattle.laws.specs.Choice.{when◌then◌else◌}
use Rattle.field.proofs.Bounds.{signs_le, digits_le}
use Rattle.field.specs.Profiles.{profile_of}
use Rattle.field.proofs.profile.profile_of.Goals as goal

pub overflow_add-signs : goal.overflow_add-signs
overflow_add-signs c = omega (arith, c.signs.ensures, c.digits_in.ensures, signs_le c.in-Integer.f, digits_le c.in-Integer.f)

pub returns-in-Integer : goal.returns-in-Integer
unfolding profile_of
returns-in-Integer c = simp (c.moving.ensures, c.in-Integer.is, c.signs.ensures, c.digits_in.ensures, c.bytes.ensures)

pub returns-in-Counter : goal.returns-in-Counter
unfolding profile_of
returns-in-Counter c = simp (c.stepping.ensures, c.in-Counter.is)

pub returns-in-Time-true : goal.returns-in-Time-true
unfolding profile_of when◌then◌else◌
returns-in-Time-true c = simp (c.parted.ensures, c.in-Time-true.is, c.in-Time-true.field-0-test)

pub returns-in-Time-false : goal.returns-in-Time-false
unfolding profile_of when◌then◌else◌
returns-in-Time-false c = simp (c.parted-in-Time-false.ensures, c.in-Time-false.is, c.in-Time-false.field-0-test)

pub returns-in-Date-true : goal.returns-in-Date-true
unfolding profile_of when◌then◌else◌
returns-in-Date-true c = simp (c.parted-in-Date-true.ensures, c.in-Date-true.is, c.in-Date-true.field-0-test)

pub returns-in-Date-false : goal.returns-in-Date-false
unfolding profile_of when◌then◌else◌
returns-in-Date-false c = simp (c.parted-in-Date-false.ensures, c.in-Date-false.is, c.in-Date-false.field-0-test)

pub returns-in-Switch : goal.returns-in-Switch
unfolding profile_of
returns-in-Switch c = simp (c.moving-in-Switch.ensures, c.in-Switch.is, c.bits_in.ensures)

pub returns-in-Option : goal.returns-in-Option
unfolding profile_of
returns-in-Option c = simp (c.sliding.ensures, c.in-Option.is)

pub returns-in-Trigger : goal.returns-in-Trigger
unfolding profile_of
returns-in-Trigger c = simp (c.firing.ensures, c.in-Trigger.is)
