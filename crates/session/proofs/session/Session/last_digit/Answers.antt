-- What the callees ensure, put together.
use Rattle.session.proofs.Entering.{last_right, last_wrong}
use Rattle.session.proofs.session.Session.last_digit.Goals as goal

pub returns-then-right : goal.returns-then-right
returns-then-right c = last_right _ c.args.self _ _ _ _ _ _ c.is_right-right.ensures c.if-right.true c.in_mode-next.ensures c.descend.ensures

pub returns : goal.returns
returns c = last_wrong _ c.args.self _ _ _ _ _ _ c.is_right-right.ensures c.if-right.false c.in_mode-next.ensures c.flash.ensures
