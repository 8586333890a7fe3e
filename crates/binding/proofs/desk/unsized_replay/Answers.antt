-- The record's refusal comes first, then what an Open without room for its session is refused for.
use Rattle.binding.proofs.Replays.{unsized_record, unsized_open}
use Rattle.binding.proofs.desk.unsized_replay.Goals as goal

pub returns-in-Err : goal.returns-in-Err
returns-in-Err c = rw c.number.ensures (unsized_record _ _ _ _ _ _ _ c.in-Err.ensures.refusal_value)

pub returns-in-Ok : goal.returns-in-Ok
returns-in-Ok c = unsized_open _ _ _ _ _ _ c.in-Ok.ensures.refusal_value _ c.unsized_refusal.ensures
