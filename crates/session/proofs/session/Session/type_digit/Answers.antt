-- What the callees ensure, put together.
use mathlib.Core.Path.{◌∙◌}
use Rattle.session.proofs.Entering.{digit_more_lem, digit_last}
use Rattle.session.proofs.session.Session.type_digit.Goals as goal

pub returns-then-n-byte_at : goal.returns-then-n-byte_at
returns-then-n-byte_at c = digit_more_lem _ c.args.self _ c.cursor_head-h.ensures c.args.count c.args.d _ _ c.byte_at.ensures c.with_digit-typed.ensures _ c.if-n-byte_at.true (c.taken.ensures ∙ rw c.in_mode.ensures)

pub returns : goal.returns
returns c = digit_last _ c.args.self _ c.cursor_head-h.ensures c.args.count c.args.d _ _ c.byte_at.ensures c.with_digit-typed.ensures _ c.if-n-byte_at.false c.last_digit.ensures
