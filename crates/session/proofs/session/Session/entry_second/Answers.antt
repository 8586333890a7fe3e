-- What the callees ensure, put together.
use mathlib.Core.Path.{◌∙◌}
use Rattle.session.proofs.Entering.{entry_ended, entry_goes_on}
use Rattle.session.proofs.session.Session.entry_second.Goals as goal

pub returns-then-delay_over : goal.returns-then-delay_over
returns-then-delay_over c = entry_ended _ c.args.self _ c.read-read.ensures _ c.later.ensures _ _ c.delay_over.ensures c.if-delay_over.true (c.taken.ensures ∙ rw (c.in_mode.ensures, c.waited-next.ensures))

pub returns : goal.returns
returns c = entry_goes_on _ c.args.self _ c.read-read.ensures _ c.later.ensures _ _ c.delay_over.ensures c.if-delay_over.false (c.taken-2.ensures ∙ rw c.waited-next.ensures)
