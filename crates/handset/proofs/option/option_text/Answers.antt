-- The part that is shown is the one that `text_place` found, and all of it is in the image.
use lib.ListN.{length}
use mathlib.Core.Path.{sym}
use native.Mathlib.Omega.{arith}
use Rattle.std.proofs.lemmas.Result.{err_from_is_err_and}
use Rattle.cmf.proofs.Numbers.{number_positive}
use Rattle.handset.proofs.Finding.{text_none}
use Rattle.handset.proofs.Items.{shown_inside, shown, shown_refusal}
use Rattle.handset.proofs.option.option_text.Goals as goal

pub returns-in_err-found : goal.returns-in_err-found
returns-in_err-found c =
    let a = c.args in
    let p = err_from_is_err_and c.from_residual.result c.from_residual.ensures.1 in
    let k = shown_refusal a.image.now (length a.sheet.now) a.place.0 a.item c.in_err-found.ensures in
    record {
      refusal_value = rw (p.1, p.2) k;
      text_value = rw p.1 (sym (text_none a.image.now (length a.sheet.now) a.place.0 a.item (λ z. omega (arith, number_positive c.in_err-found.field-0.0, k, z))));
    }

pub overflow_add-result : goal.overflow_add-result
overflow_add-result c = omega (arith, shown_inside c.args.image.now (length c.args.sheet.now) c.args.place.0 c.args.item c.in_ok-found.ensures)

pub slice_bounds-result-end : goal.slice_bounds-result-end
slice_bounds-result-end c = shown_inside c.args.image.now (length c.args.sheet.now) c.args.place.0 c.args.item c.in_ok-found.ensures

pub returns : goal.returns
returns c =
    let a = c.args in
    record {
      refusal_value = shown_refusal a.image.now (length a.sheet.now) a.place.0 a.item c.in_ok-found.ensures;
      text_value = shown a.image.now (length a.sheet.now) a.place.0 a.item c.in_ok-found.ensures;
    }
