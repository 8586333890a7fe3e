-- The refusal's number, or the record's length, which fits.
use native.Mathlib.Omega.{arith}
use Rattle.binding.proofs.Replays.{record_refused, record_told, record_small}
use Rattle.binding.proofs.desk.handset_record.Goals as goal

pub overflow_cast-result : goal.overflow_cast-result
overflow_cast-result c = omega (arith, record_small _ _ _ c.in-Ok.ensures.length_value)

pub returns-in-Ok : goal.returns-in-Ok
returns-in-Ok c =
    let told = c.in-Ok.ensures in
    record { value = record_told _ _ told.refusal_value _ told.length_value; room_after = told.room_after }

pub returns-in-Err : goal.returns-in-Err
returns-in-Err c =
    let told = c.in-Err.ensures in
    record { value = record_refused _ _ _ told.refusal_value _ (rw c.number.ensures at c.refused_by.ensures); room_after = told.room_after }
