-- By whether the image is refused. The top table has all fields, and the list is zeros before them.
use mathlib.Core.Path.{refl}
use Rattle.std.proofs.lemmas.Result.{err_from_is_err_and}
use Rattle.laws.specs.Overwrite.{fit}
use Rattle.cmf.specs.Places.{component_places, fields_of}
use borrow.Author.Rules.{rules}
use Rattle.handset.proofs.Filling.{all_listed}
use Rattle.handset.proofs.fields.list_fields.Goals as goal

pub returns-in_err-check_image : goal.returns-in_err-check_image
returns-in_err-check_image c =
    let p = err_from_is_err_and c.from_residual.result c.from_residual.ensures.1 in
    record { refusal_value = rw (p.1, p.2) c.in_err-check_image.ensures; fields_value = rw p.1 tt }

pub returns : goal.returns
unfolding fields_of component_places fit
returns c =
    let told = all_listed c.args.image.now c.args.extent _ c.in_ok-check_image.ensures _ refl _ refl c.take_table.ensures.taken in
    record { refusal_value = told.0; fields_value = (told.1.0, search (rules, told.1.1)) }
