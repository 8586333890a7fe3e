-- What the callees ensure, put together.
use Rattle.session.proofs.Visiting.{second_step, second_sheet, key_step, key_sheet}
use Rattle.session.proofs.session.Session.visit.Goals as goal

pub returns-then-event-eq-SECOND : goal.returns-then-event-eq-SECOND
returns-then-event-eq-SECOND c = record { value = second_step _ _ c.args.self c.args.place _ _ c.if-event-eq-SECOND.true c.taken.ensures; sheet_after = second_sheet _ _ c.args.self c.args.place _ c.if-event-eq-SECOND.true }

pub returns : goal.returns
returns c = record { value = key_step _ _ c.args.self c.args.place _ _ _ c.if-event-eq-SECOND.false c.read_component-c.ensures c.press-pressed.ensures _ _ c.reset_idle.ensures c.follow.ensures.value; sheet_after = key_sheet _ _ c.args.self c.args.place _ _ _ c.if-event-eq-SECOND.false c.read_component-c.ensures c.press-pressed.ensures _ c.follow.ensures.sheet_after }
