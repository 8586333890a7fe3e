-- Each return is the case of the definition that the tests on its path choose.
use mathlib.Core.Path.{refl}
use Rattle.field.specs.Cells.{work_of}
use Rattle.laws.specs.Overwrite.{fit}
use Rattle.field.proofs.work.three.Goals as goal

pub returns : goal.returns
unfolding work_of fit
returns c = refl
