-- Each return is the case of the definition that the tests on its path choose.
use native.Mathlib.Omega.{arith}
use Rattle.laws.proofs.Cases.{choices}
use Rattle.field.specs.Cells.{spans}
use Rattle.field.proofs.numeral.Numeral.spans.Goals as goal

pub returns-then-x-self : goal.returns-then-x-self
unfolding spans
returns-then-x-self c = search (choices, arith)

pub returns-then-self-x : goal.returns-then-self-x
unfolding spans
returns-then-self-x c = search (choices, arith)

pub returns-else-self-x : goal.returns-else-self-x
unfolding spans
returns-else-self-x c = search (choices, arith)
