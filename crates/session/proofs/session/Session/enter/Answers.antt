-- What the callees ensure, put together, by what is found.
use mathlib.Core.Path.{◌∙◌}
use Rattle.session.specs.Browsing.{enter_at}
use Rattle.session.proofs.Moving.{enter_is}
use Rattle.session.proofs.session.Session.enter.Goals as goal

pub returns-in-Some : goal.returns-in-Some
unfolding enter_at
returns-in-Some c = enter_is _ _ c.args.self _ _ _ c.cursor_head-h.ensures c.first_editable-f.ensures (c.taken.ensures ∙ rw (c.visit_at.ensures, c.in-Some.is))

pub returns-in-None : goal.returns-in-None
unfolding enter_at
returns-in-None c = enter_is _ _ c.args.self _ _ _ c.cursor_head-h.ensures c.first_editable-f.ensures (c.flash.ensures ∙ rw c.in-None.is)
