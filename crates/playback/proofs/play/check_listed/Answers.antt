-- The cases of the definition, one a return.
use Rattle.std.proofs.lemmas.Result.{err_from_is_err_and}
use Rattle.playback.proofs.Replays.{listed_refused, listed_short, listed_good, listed_count, listed_start}
use Rattle.playback.proofs.play.check_listed.Goals as goal

pub returns-in_err-events-clause-refusal_value : goal.returns-in_err-events-clause-refusal_value
returns-in_err-events-clause-refusal_value c =
    let p = err_from_is_err_and c.from_residual.result c.from_residual.ensures.1 in
    rw (p.1, p.2) (listed_refused _ _ _ c.in_err-events.ensures.refusal_value)

pub returns-then-room-events-clause-refusal_value : goal.returns-then-room-events-clause-refusal_value
returns-then-room-events-clause-refusal_value c =
    let checked = c.in_ok-events.ensures in
    listed_short _ _ checked.refusal_value _ checked.events_value.0 c.if-room-events.true

pub returns-clause-refusal_value : goal.returns-clause-refusal_value
returns-clause-refusal_value c =
    let checked = c.in_ok-events.ensures in
    listed_good _ _ checked.refusal_value _ checked.events_value.0 c.if-room-events.false

pub returns-clause-events_value : goal.returns-clause-events_value
returns-clause-events_value c =
    let checked = c.in_ok-events.ensures in (
      listed_count _ _ checked.refusal_value _ checked.events_value.0 c.if-room-events.false,
      listed_start _ _ checked.refusal_value _ checked.events_value.0 c.if-room-events.false _ checked.events_value.1,
    )
