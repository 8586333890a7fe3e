-- What the callees ensure, put together.
use mathlib.Core.Path.{◌∙◌}
use Rattle.session.proofs.Moving.{right_asks, right_opens, right_none}
use Rattle.session.proofs.session.Session.right.Goals as goal

pub returns-then-h-2 : goal.returns-then-h-2
returns-then-h-2 c = right_asks _ c.args.self _ c.cursor_head-h.ensures _ c.if-h.true c.if-h-2.true (c.taken.ensures ∙ rw c.in_mode.ensures)

pub returns-then-h : goal.returns-then-h
returns-then-h c = right_opens _ c.args.self _ c.cursor_head-h.ensures _ c.if-h.true c.if-h-2.false c.descend.ensures

pub returns : goal.returns
returns c = right_none _ c.args.self _ c.cursor_head-h.ensures _ c.if-h.false c.flash.ensures
