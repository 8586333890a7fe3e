-- Each return is the case of the definition that the tests on its path choose.
use Rattle.laws.specs.Choice.{when◌then◌else◌, ◌and◌}
use borrow.Author.Tests.{lt-ltb, le-ltb}
use Rattle.session.specs.Fits.{work_fits}
use Rattle.session.proofs.fits.work_fits.Goals as goal

pub returns-then-p : goal.returns-then-p
unfolding work_fits ◌and◌ when◌then◌else◌
returns-then-p c = simp (← c.profile_of-p.ensures, lt-ltb _ _ c.if-work-p.true, c.if-p.true)

pub returns-else-p : goal.returns-else-p
unfolding work_fits ◌and◌ when◌then◌else◌
returns-else-p c = simp (c.legal.ensures, ← c.profile_of-p.ensures, lt-ltb _ _ c.if-work-p.true, c.if-p.false)

pub returns-else-work-p : goal.returns-else-work-p
unfolding work_fits ◌and◌
returns-else-work-p c = simp (← c.profile_of-p.ensures, le-ltb _ _ c.if-work-p.false)
