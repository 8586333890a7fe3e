-- What goes on from the head that was read, and what its events are refused for.
use mathlib.Core.Path.{sym}
use Rattle.std.proofs.lemmas.Result.{err_from_is_err_and}
use Rattle.record.proofs.Steps.{refused_head, refused_events, count_checked, start_checked}
use Rattle.record.proofs.reading.check_record.Goals as goal

pub returns-in_err-count-clause-refusal_value : goal.returns-in_err-count-clause-refusal_value
returns-in_err-count-clause-refusal_value c =
    let p = err_from_is_err_and c.from_residual.result c.from_residual.ensures.1 in
    rw (p.1, p.2) (refused_head _ _ (sym c.in_err-count.ensures))

pub returns-in_err-scan-clause-refusal_value : goal.returns-in_err-scan-clause-refusal_value
returns-in_err-scan-clause-refusal_value c =
    let p = err_from_is_err_and c.from_residual-in_err-scan.result c.from_residual-in_err-scan.ensures.1 in
    rw (p.1, p.2) (refused_events _ _ _ (sym c.in_ok-count.ensures) _ c.in_err-scan.ensures)

pub returns-clause-refusal_value : goal.returns-clause-refusal_value
returns-clause-refusal_value c = refused_events _ _ _ (sym c.in_ok-count.ensures) _ c.in_ok-scan.ensures

pub returns-clause-events_value : goal.returns-clause-events_value
returns-clause-events_value c =
    let h = sym c.in_ok-count.ensures in
    (count_checked _ _ _ h c.in_ok-scan.ensures, start_checked _ _ _ h c.in_ok-scan.ensures)
