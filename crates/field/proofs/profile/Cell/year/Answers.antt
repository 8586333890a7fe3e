-- Each return is the case of the definition that the tests on its path choose.
use native.Mathlib.Omega.{arith}
use Rattle.laws.proofs.Cases.{choices}
use Rattle.field.proofs.profile.Cell.year.Goals as goal

pub returns-then-long : goal.returns-then-long
returns-then-long c = search (choices, arith)

pub returns-else-long : goal.returns-else-long
returns-else-long c = search (choices, arith)
