-- A field more, if there may be one: one of the grammar whose bytes are claimed, or a trigger.
use Rattle.quick.proofs.FixedFields.{trigger_passes, fixed_passes}
use native.Mathlib.Omega.{arith}
use Rattle.quick.proofs.fixed.accept_field.Goals as goal

pub returns-then-image-p-eq23 : goal.returns-then-image-p-eq23
returns-then-image-p-eq23 c = rw c.fielded.ensures (trigger_passes _ (omega arith) _ c.in_ok-trigger_end.ensures)

pub returns : goal.returns
returns c = rw c.fielded-2.ensures (fixed_passes _ (omega arith) c.in_ok-end.ensures c.word_in.ensures.0 (c.claim.ensures c.if-not-claim.false))
