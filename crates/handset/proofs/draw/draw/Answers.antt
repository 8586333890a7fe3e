-- A refusal, or the picture and the cursor: the cases of the call.
use mathlib.Core.Path.{◌≡◌, refl, ◌∙◌}
use native.Mathlib.Omega.{arith}
use Rattle.std.proofs.lemmas.Result.{err_from_is_err_and}
use Rattle.cmf.specs.Refusals.{number}
use Rattle.cmf.proofs.Numbers.{number_positive}
use Rattle.picture.specs.Cursor.{cursor_place}
use Rattle.handset.proofs.Drawing.{refused_cursor, refused_picture, drawn_cursor, drawn_filled}
use Rattle.handset.proofs.draw.draw.Goals as goal

pub returns-in_err-check_drawing : goal.returns-in_err-check_drawing
unfolding cursor_place
returns-in_err-check_drawing c =
    let a = c.args in
    let p = err_from_is_err_and c.from_residual.result c.from_residual.ensures.1 in
    let k = c.in_err-check_drawing.ensures in
    let z : number c.in_err-check_drawing.field-0.0 ≡ 0 → ⊥ = λ e. omega (arith, number_positive c.in_err-check_drawing.field-0.0, e) in
    record {
      refusal_value = rw (p.1, p.2) k;
      cursor_value = rw p.1 (refused_cursor a.image.now a.sheet.now a.session a.picture.now _ k z);
      picture_after = refused_picture a.image.now a.sheet.now a.session a.picture.now _ k z;
    }

pub returns : goal.returns
returns c =
    let a = c.args in
    let k = c.in_ok-check_drawing.ensures in
    record {
      refusal_value = k;
      cursor_value = c.edit_cursor.ensures ∙ drawn_cursor a.image.now a.sheet.now a.session a.picture.now _ k refl;
      picture_after = c.put_picture.ensures ∙ drawn_filled a.image.now a.sheet.now a.session a.picture.now _ k refl;
    }
