-- What the callees ensure, put together.
use mathlib.Core.Path.{◌∙◌}
use Rattle.session.proofs.Entering.{top_shown, still_here}
use Rattle.session.proofs.session.Session.browse_second.Goals as goal

pub returns-then-delay_over : goal.returns-then-delay_over
returns-then-delay_over c = top_shown _ c.args.self _ c.read-read.ensures _ c.later.ensures _ _ c.delay_over.ensures c.if-delay_over.true (c.taken.ensures ∙ rw (c.at_top.ensures, c.waited-next.ensures))

pub returns : goal.returns
returns c = still_here _ c.args.self _ c.read-read.ensures _ c.later.ensures _ _ c.delay_over.ensures c.if-delay_over.false (c.taken-2.ensures ∙ rw c.waited-next.ensures)
