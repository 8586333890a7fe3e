-- Each return is the case of the definition that the tests on its path choose.
use Rattle.session.specs.Session.{closed}
use Rattle.session.proofs.session.Session.closed.Goals as goal

pub returns : goal.returns
unfolding closed
returns c = c.opened.ensures
