-- Each return is the case of the definition that the tests on its path choose.
use mathlib.Core.Path.{refl}
use Rattle.session.specs.Session.{opened}
use Rattle.session.proofs.session.Session.opened.Goals as goal

pub returns : goal.returns
unfolding opened
returns c = refl
