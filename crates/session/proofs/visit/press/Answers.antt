-- Each arm is the case of the definition that its number chooses.
use mathlib.Core.Path.{◌∙◌}
use native.Mathlib.Omega.{arith}
use Rattle.laws.specs.Choice.{when◌then◌else◌}
use Rattle.session.specs.Visits.{pressed}
use Rattle.session.proofs.Visiting.{press_digit, press_other}
use Rattle.session.proofs.visit.press.Goals as goal

pub returns-in-11 : goal.returns-in-11
unfolding pressed when◌then◌else◌
returns-in-11 c = simp (c.up.ensures, c.cell_of-c.ensures, c.profile_of-p.ensures, c.in-11.is)

pub returns-in-12 : goal.returns-in-12
unfolding pressed when◌then◌else◌
returns-in-12 c = simp (c.down.ensures, c.cell_of-c.ensures, c.profile_of-p.ensures, c.in-12.is)

pub returns-in-13 : goal.returns-in-13
unfolding pressed when◌then◌else◌
returns-in-13 c = simp (c.left.ensures, c.cell_of-c.ensures, c.profile_of-p.ensures, c.in-13.is)

pub returns-in-14 : goal.returns-in-14
unfolding pressed when◌then◌else◌
returns-in-14 c = simp (c.right.ensures, c.cell_of-c.ensures, c.profile_of-p.ensures, c.in-14.is)

pub returns-in-15 : goal.returns-in-15
unfolding pressed when◌then◌else◌
returns-in-15 c = simp (c.enter.ensures, c.in-15.is)

pub returns-in-0-to-9 : goal.returns-in-0-to-9
returns-in-0-to-9 c = let h = c.in-0-to-9.in_default-own in c.digit.ensures ∙ rw (c.cell_of-c.ensures, c.profile_of-p.ensures) (press_digit _ _ _ h.rest.0.0.0.0.1 h.rest.0.0.0.1 h.rest.0.0.1 h.rest.0.1 h.rest.1 (omega arith))

pub returns-in_default : goal.returns-in_default
returns-in_default c = let h = c.in_default.in_default-own in press_other _ _ _ h.rest.0.0.0.0.1 h.rest.0.0.0.1 h.rest.0.0.1 h.rest.0.1 h.rest.1 (omega arith)
