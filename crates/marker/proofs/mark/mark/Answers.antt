-- By what is refused: image and sheet, or the key.
use mathlib.Core.Path.{refl, sym}
use lib.ListN.{length}
use Rattle.laws.specs.Overwrite.{fit}
use Rattle.std.proofs.lemmas.Result.{err_from_is_err_and}
use Rattle.marker.proofs.Starts.{list_room, image_refused, table_open, answered}
use Rattle.marker.proofs.mark.mark.Goals as goal

pub returns-in_err-fields : goal.returns-in_err-fields
returns-in_err-fields c =
    let p = err_from_is_err_and c.from_residual.result c.from_residual.ensures.1 in
    let told = image_refused c.args.image.now c.args.sheet.now c.args.key.now _ c.in_err-fields.ensures.refusal_value c.in_err-fields.field-0.0 refl in
    record { value = rw (p.1, p.2) told.0; result_value = rw (p.1, p.2) told.1; refusal_value = rw (p.1, p.2) told.2 }

pub split_at-requires : goal.split_at-requires
split_at-requires c =
    let f = c.in_ok-fields.ensures in list_room c.args.image.now (length c.args.sheet.now) (sym f.refusal_value) _ _ f.fields_value.0 f.fields_value.1

pub mark_all-requires : goal.mark_all-requires
unfolding fit
mark_all-requires c =
    let f = c.in_ok-fields.ensures in
    table_open c.args.image.now c.args.sheet.now c.args.key.now _ f.refusal_value refl _ _ _ _ f.fields_value.0 f.fields_value.1 refl (rw c.split_at.ensures.front at c.enter_all.ensures)

pub returns : goal.returns
unfolding fit
returns c =
    let f = c.in_ok-fields.ensures in
    let told = answered c.args.image.now c.args.sheet.now c.args.key.now _ f.refusal_value refl _ _ _ _ f.fields_value.0 f.fields_value.1 refl (rw c.split_at.ensures.front at c.enter_all.ensures) _ c.mark_all.ensures in
    record { value = told.0; result_value = told.1; refusal_value = told.2 }
