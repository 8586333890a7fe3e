-- A number of a refusal leaves the bytes; else they are those of the stepped session.
use Rattle.binding.proofs.Calling.{number_told, sheet_told, bytes_refused, session_kept, bytes_stepped, session_next}
use Rattle.binding.proofs.Wide.{step_by, sheet_step_by}
use Rattle.binding.proofs.calls.handset_event.Goals as goal

pub returns-then-number-ge-REFUSED : goal.returns-then-number-ge-REFUSED
returns-then-number-ge-REFUSED c = let f = step_by c.args.image.now c.args.sheet.now c.read_session.result c.args.event _ c.byte_of.ensures c.event-stepped.result c.event-stepped.ensures.value in record { value = number_told c.args.image.now c.args.sheet.now c.args.session.now c.args.event c.read_session.ensures f _ c.number-number.ensures; sheet_after = sheet_told c.args.image.now c.args.sheet.now c.args.session.now c.args.event c.read_session.ensures f _ (sheet_step_by c.args.image.now c.args.sheet.now c.read_session.result c.args.event _ c.byte_of.ensures _ c.event-stepped.ensures.sheet_after); session_after = bytes_refused c.args.image.now c.args.sheet.now c.args.session.now c.args.event c.read_session.ensures f _ c.number-number.ensures c.if-number-ge-REFUSED.true; session_after_2 = session_kept c.args.image.now c.args.sheet.now c.args.session.now c.args.event c.read_session.ensures f _ c.number-number.ensures c.if-number-ge-REFUSED.true }

pub returns : goal.returns
returns c = let f = step_by c.args.image.now c.args.sheet.now c.read_session.result c.args.event _ c.byte_of.ensures c.event-stepped.result c.event-stepped.ensures.value in record { value = number_told c.args.image.now c.args.sheet.now c.args.session.now c.args.event c.read_session.ensures f _ c.number-number.ensures; sheet_after = sheet_told c.args.image.now c.args.sheet.now c.args.session.now c.args.event c.read_session.ensures f _ (sheet_step_by c.args.image.now c.args.sheet.now c.read_session.result c.args.event _ c.byte_of.ensures _ c.event-stepped.ensures.sheet_after); session_after = bytes_stepped c.args.image.now c.args.sheet.now c.args.session.now c.args.event c.read_session.ensures f _ c.number-number.ensures c.if-number-ge-REFUSED.false _ c.write_session.ensures.bytes_after; session_after_2 = session_next c.args.image.now c.args.sheet.now c.args.session.now c.args.event c.read_session.ensures f _ c.number-number.ensures c.if-number-ge-REFUSED.false _ c.write_session.ensures.bytes_after c.write_session.ensures.session_value }
