-- Each arm is the case of the definition that its number chooses.
use Rattle.laws.specs.Choice.{when◌then◌else◌}
use Rattle.laws.proofs.Cases.{tests}
use Rattle.session.specs.Browsing.{browse_step}
use Rattle.session.proofs.session.Session.browse.Goals as goal

pub returns-in-11 : goal.returns-in-11
unfolding browse_step when◌then◌else◌
returns-in-11 c = simp (c.up.ensures, c.reset_idle-active.ensures, c.in-11.is)

pub returns-in-12 : goal.returns-in-12
unfolding browse_step when◌then◌else◌
returns-in-12 c = simp (c.down.ensures, c.reset_idle-active.ensures, c.in-12.is)

pub returns-in-13 : goal.returns-in-13
unfolding browse_step when◌then◌else◌
returns-in-13 c = simp (c.left.ensures, c.reset_idle-active.ensures, c.in-13.is)

pub returns-in-14 : goal.returns-in-14
unfolding browse_step when◌then◌else◌
returns-in-14 c = simp (c.right.ensures, c.reset_idle-active.ensures, c.in-14.is)

pub returns-in-15 : goal.returns-in-15
unfolding browse_step when◌then◌else◌
returns-in-15 c = simp (c.enter.ensures, c.reset_idle-active.ensures, c.in-15.is)

pub returns-in-16 : goal.returns-in-16
unfolding browse_step when◌then◌else◌
returns-in-16 c = simp (c.browse_second.ensures, c.in-16.is)

pub returns-in_default : goal.returns-in_default
unfolding browse_step when◌then◌else◌
returns-in_default c = simp (c.flash.ensures, c.reset_idle-active.ensures) (search tests)
