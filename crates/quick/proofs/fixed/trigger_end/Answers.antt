-- A trigger has no settings.
use Rattle.quick.proofs.FixedFields.{trigger_is}
use mathlib.Core.Path.{refl}
use native.Mathlib.Omega.{arith}
use Rattle.quick.proofs.fixed.trigger_end.Goals as goal

pub returns : goal.returns
returns c = trigger_is _ _ _ (omega arith) c.requires.1 refl
