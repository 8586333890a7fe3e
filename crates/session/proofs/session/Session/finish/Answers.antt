-- What the callees ensure, put together.
use Rattle.session.specs.Visits.{followed}
use Rattle.session.proofs.session.Session.finish.Goals as goal

pub returns : goal.returns
unfolding followed
returns c = record { value = rw (← c.finish.ensures, c.moved_on-session.ensures); sheet_after = c.finish.ensures }
