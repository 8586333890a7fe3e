-- Each return is the case of the definition that the tests on its path choose.
use Rattle.laws.proofs.Cases.{choices}
use native.Mathlib.Omega.{arith}
use Rattle.field.proofs.value.if_below.Goals as goal

pub returns-then-i-count : goal.returns-then-i-count
returns-then-i-count c = search (choices, arith)

pub returns-else-i-count : goal.returns-else-i-count
returns-else-i-count c = search (choices, arith)
