-- No bytes, padded with 0 to four.
use mathlib.Core.Path.{refl}
use Rattle.laws.specs.Overwrite.{fit}
use Rattle.cmf.proofs.component.trigger.Goals as goal

pub returns : goal.returns
unfolding fit
returns c = refl
