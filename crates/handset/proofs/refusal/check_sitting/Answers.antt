-- The first refusal is given.
use Rattle.std.proofs.lemmas.Result.{err_from_is_err_and}
use Rattle.handset.specs.Refusals.{session_refusal}
use Rattle.handset.proofs.Ordering.{stops_at, goes_on}
use Rattle.handset.proofs.refusal.check_sitting.Goals as goal

pub returns-in_err-check_image : goal.returns-in_err-check_image
unfolding session_refusal
returns-in_err-check_image c =
    let p = err_from_is_err_and c.from_residual.result c.from_residual.ensures.1 in
    rw (p.1, p.2) (stops_at _ _ c.in_err-check_image.field-0.0 c.in_err-check_image.ensures)

pub returns : goal.returns
unfolding session_refusal
returns c = goes_on _ _ c.in_ok-check_image.ensures c.check_session.ensures
