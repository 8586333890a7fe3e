-- A buffer of another length, or what Open answers.
use Rattle.binding.proofs.Calling.{open_unsized, open_sized, refusal_of_lem, bytes_kept, bytes_opened, sheet_kept, sheet_opened, session_closed, session_opened}
use Rattle.binding.proofs.Wide.{refused_by_shape, answer_by, sheet_by}
use lib.ListN.{length}
use Rattle.binding.proofs.calls.handset_open.Goals as goal

pub returns-then-session-ne-SIZE : goal.returns-then-session-ne-SIZE
returns-then-session-ne-SIZE c = record { value = open_unsized c.args.image.now (length c.args.sheet.now) c.args.columns c.args.lines (length c.args.session.now) _ c.if-session-ne-SIZE.true (refused_by_shape c.args.columns c.args.lines _ _ c.byte_of-across.ensures c.byte_of-down.ensures c.args.image.now (length c.args.sheet.now) _ c.unsized_refusal.ensures); sheet_after = sheet_kept c.args.image.now c.args.sheet.now c.args.columns c.args.lines (length c.args.session.now) c.if-session-ne-SIZE.true; session_after = bytes_kept c.args.image.now (length c.args.sheet.now) c.args.columns c.args.lines c.args.session.now c.if-session-ne-SIZE.true; session_after_2 = session_closed c.args.image.now (length c.args.sheet.now) c.args.columns c.args.lines c.args.session.now c.if-session-ne-SIZE.true }

pub returns : goal.returns
returns c = let a = answer_by c.args.columns c.args.lines _ _ c.byte_of-across.ensures c.byte_of-down.ensures c.args.image.now (length c.args.sheet.now) _ c.open-opened.ensures.value in record { value = open_sized c.args.image.now (length c.args.sheet.now) c.args.columns c.args.lines (length c.args.session.now) _ _ c.if-session-ne-SIZE.false (refusal_of_lem c.args.image.now (length c.args.sheet.now) c.args.columns c.args.lines _ a) c.refused_by.ensures; sheet_after = sheet_opened c.args.image.now c.args.sheet.now c.args.columns c.args.lines (length c.args.session.now) _ c.if-session-ne-SIZE.false (sheet_by c.args.columns c.args.lines _ _ c.byte_of-across.ensures c.byte_of-down.ensures c.args.image.now c.args.sheet.now _ c.open-opened.ensures.sheet_after); session_after = bytes_opened c.args.image.now (length c.args.sheet.now) c.args.columns c.args.lines c.args.session.now _ c.open-opened.result a c.write_session.ensures.bytes_after; session_after_2 = session_opened c.args.image.now (length c.args.sheet.now) c.args.columns c.args.lines c.args.session.now _ c.open-opened.result c.if-session-ne-SIZE.false a c.write_session.ensures.bytes_after c.write_session.ensures.session_value }
