-- What Draw answers of the session that the bytes are.
use lib.ListN.{length}
use mathlib.Core.Path.{◌≡◌, refl}
use native.Mathlib.Omega.{arith}
use Rattle.cmf.specs.Refusals.{number}
use Rattle.cmf.proofs.Numbers.{number_positive}
use Rattle.binding.proofs.Calling.{refusal_from, cursor_from_lem, picture_from, draw_refused, draw_given, cursor_fits}
use Rattle.binding.proofs.calls.handset_draw.Goals as goal

pub returns-in-Err : goal.returns-in-Err
returns-in-Err c =
    let z : number c.in-Err.refusal ≡ 0 → ⊥ = λ e. omega (arith, number_positive c.in-Err.refusal, e) in
    record { value = draw_refused c.args.image.now c.args.session.now (length c.args.sheet.now) (length c.args.picture.now) _ (refusal_from c.args.image.now (length c.args.sheet.now) (length c.args.picture.now) _ _ c.read_session-shown.ensures c.in-Err.ensures.refusal_value) _ z (rw c.number.ensures at c.refused_by.ensures); picture_after = picture_from c.args.image.now c.args.sheet.now c.args.picture.now _ _ c.read_session-shown.ensures c.draw.ensures.picture_after }

pub cursor_number-requires : goal.cursor_number-requires
cursor_number-requires c = cursor_fits c.args.image.now c.args.session.now (length c.args.sheet.now) (length c.args.picture.now) _ (refusal_from c.args.image.now (length c.args.sheet.now) (length c.args.picture.now) _ _ c.read_session-shown.ensures c.in-Ok.ensures.refusal_value) _ refl (cursor_from_lem c.args.image.now (length c.args.sheet.now) (length c.args.picture.now) _ _ c.read_session-shown.ensures c.in-Ok.ensures.cursor_value)

pub returns-in-Ok : goal.returns-in-Ok
returns-in-Ok c = record { value = draw_given c.args.image.now c.args.session.now (length c.args.sheet.now) (length c.args.picture.now) _ (refusal_from c.args.image.now (length c.args.sheet.now) (length c.args.picture.now) _ _ c.read_session-shown.ensures c.in-Ok.ensures.refusal_value) _ _ refl c.cursor_number.ensures (cursor_from_lem c.args.image.now (length c.args.sheet.now) (length c.args.picture.now) _ _ c.read_session-shown.ensures c.in-Ok.ensures.cursor_value); picture_after = picture_from c.args.image.now c.args.sheet.now c.args.picture.now _ _ c.read_session-shown.ensures c.draw.ensures.picture_after }
