-- The item's place is that of the definition, since the option is in the image.
use lib.ListN.{length}
use mathlib.Core.Path.{refl}
use native.Mathlib.Omega.{arith}
use Rattle.std.proofs.lemmas.Result.{err_from_is_err_and}
use Rattle.cmf.proofs.Numbers.{number_positive}
use Rattle.handset.proofs.Items.{not_placed, placed, placed_inside}
use Rattle.handset.proofs.option.text_place.Goals as goal

pub returns-in_err-check_item : goal.returns-in_err-check_item
returns-in_err-check_item c =
    let a = c.args in
    let p = err_from_is_err_and c.from_residual.result c.from_residual.ensures.1 in
    let k = c.in_err-check_item.ensures in
    rw (p.1, p.2) (not_placed a.image.now (length a.sheet.now) a.place.0 a.item _ k (λ z. omega (arith, number_positive c.in_err-check_item.field-0.0, z)))

pub overflow_add-result : goal.overflow_add-result
overflow_add-result c = omega (arith, placed_inside c.args.image.now (length c.args.sheet.now) c.args.place.0 c.args.item _ c.in_ok-check_item.ensures refl _ c.item_place-text.ensures)

pub returns : goal.returns
returns c = placed c.args.image.now (length c.args.sheet.now) c.args.place.0 c.args.item _ c.in_ok-check_item.ensures refl _ c.item_place-text.ensures _ c.byte_at.ensures
