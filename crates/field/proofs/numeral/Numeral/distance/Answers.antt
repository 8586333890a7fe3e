-- Each return is the case of the definition that the tests on its path choose.
use native.Mathlib.Omega.{arith}
use Rattle.laws.proofs.Cases.{choices}
use Rattle.field.specs.Cells.{distance}
use Rattle.field.proofs.numeral.Numeral.distance.Goals as goal

pub returns-then-x-self : goal.returns-then-x-self
unfolding distance
returns-then-x-self c = search (choices, arith)

pub returns-else-x-self : goal.returns-else-x-self
unfolding distance
returns-else-x-self c = search (choices, arith)
