-- The tests are those of the parts.
use mathlib.Core.Path.{refl}
use native.Mathlib.Omega.{arith}
use Rattle.quick.proofs.FixedFields.{time_is}
use Rattle.quick.proofs.fixed.time_end.Goals as goal
use Rattle.quick.proofs.fixed.time_end.Goals.{else-size-eq3-via-then-size-eq3+else-image-at-gt-MAX_SECOND, else-size-eq3-via-else-size-eq3}

pub returns : goal.returns
returns c = time_is _ _ _ (omega arith) c.requires.sizes refl (omega arith) (omega arith) (λ z. elim c.else-size-eq3.branch [ else-size-eq3-via-then-size-eq3+else-image-at-gt-MAX_SECOND w ↦ w.if-image-at-gt-MAX_SECOND.false | else-size-eq3-via-else-size-eq3 w ↦ absurd (w.if-size-eq3.false z) ])
