-- The tests are those of its settings.
use mathlib.Core.Path.{refl}
use Rattle.laws.proofs.Cases.{via}
use Rattle.quick.proofs.FixedFields.{counter_is}
use native.Mathlib.Omega.{arith}
use Rattle.quick.proofs.fixed.counter_end.Goals as goal

pub returns : goal.returns
returns c = counter_is _ _ _ (omega arith) _ c.requires.1 refl c.counter_settings-s.ensures (via c.counter_in_range.ensures c.if-not-counter_in_range.false) (via c.step_fits.ensures c.if-not-step_fits.false) (via c.width_fits.ensures c.if-not-width_fits.false)
