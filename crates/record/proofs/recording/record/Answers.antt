-- Refused, or the three writings one after the other, which are the record.
use mathlib.Core.Path.{◌≡◌}
use native.Mathlib.Omega.{arith}
use lib.ListN.{length}
use Rattle.std.proofs.lemmas.Result.{err_from_is_err_and}
use Rattle.cmf.specs.Refusals.{number}
use Rattle.cmf.proofs.Numbers.{number_positive}
use Rattle.record.proofs.Records.{is_few, recorded_length, recorded_refusal, refused_room, recorded_room}
use Rattle.record.proofs.recording.record.Goals as goal

pub returns-in_err-length-clause-refusal_value : goal.returns-in_err-length-clause-refusal_value
returns-in_err-length-clause-refusal_value c =
    let p = err_from_is_err_and c.from_residual.result c.from_residual.ensures.1 in
    rw (p.1, p.2) (recorded_refusal _ _ _ c.in_err-length.ensures.refusal_value)

pub returns-in_err-length-clause-room_after : goal.returns-in_err-length-clause-room_after
returns-in_err-length-clause-room_after c =
    let z : number c.in_err-length.field-0.0 ≡ 0 → ⊥ = λ e. omega (arith, number_positive c.in_err-length.field-0.0, e) in
    refused_room _ _ _ z c.in_err-length.ensures.refusal_value

pub overflow_cast-events : goal.overflow_cast-events
overflow_cast-events c = omega (arith, is_few c.args.events.now (length c.args.room.now) c.in_ok-length.ensures.refusal_value)

pub returns-clause-refusal_value : goal.returns-clause-refusal_value
returns-clause-refusal_value c = recorded_refusal _ _ _ c.in_ok-length.ensures.refusal_value

pub returns-clause-length_value : goal.returns-clause-length_value
returns-clause-length_value c = recorded_length _ _ c.in_ok-length.ensures.refusal_value _ c.in_ok-length.ensures.length_value

pub returns-clause-room_after : goal.returns-clause-room_after
returns-clause-room_after c =
    let at = c.write_number-at.ensures in
    let start = c.write_number-start.ensures in
    recorded_room _ _ c.in_ok-length.ensures.refusal_value _ _ _ _ _ at.0 at.1 start.0 start.1 c.put_bytes.ensures
