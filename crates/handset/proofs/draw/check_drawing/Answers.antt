-- The first refusal is given.
use Rattle.std.proofs.lemmas.Result.{err_from_is_err_and}
use Rattle.handset.specs.Draw.{draw_refusal}
use Rattle.handset.proofs.Ordering.{stops_at, goes_on}
use Rattle.handset.proofs.draw.check_drawing.Goals as goal

pub returns-in_err-check_sitting : goal.returns-in_err-check_sitting
unfolding draw_refusal
returns-in_err-check_sitting c =
    let p = err_from_is_err_and c.from_residual.result c.from_residual.ensures.1 in
    rw (p.1, p.2) (stops_at _ _ c.in_err-check_sitting.field-0.0 c.in_err-check_sitting.ensures)

pub returns : goal.returns
unfolding draw_refusal
returns c = goes_on _ _ c.in_ok-check_sitting.ensures c.check_picture.ensures
