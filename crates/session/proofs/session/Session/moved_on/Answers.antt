-- What the callees ensure, put together, by what is found.
use mathlib.Core.Path.{◌∙◌}
use Rattle.session.specs.Visits.{moved_to}
use Rattle.session.proofs.Visiting.{moved_is}
use Rattle.session.proofs.session.Session.moved_on.Goals as goal

pub returns-in-Some : goal.returns-in-Some
unfolding moved_to
returns-in-Some c = moved_is _ _ c.args.self _ _ _ c.next_editable-f.ensures (c.visit_at.ensures ∙ rw c.in-Some.is)

pub returns-in-None : goal.returns-in-None
unfolding moved_to
returns-in-None c = moved_is _ _ c.args.self _ _ _ c.next_editable-f.ensures (c.in_mode.ensures ∙ rw c.in-None.is)
