-- Each return is the case of the definition that the tests on its path choose.
use native.Mathlib.Omega.{arith}
use Rattle.laws.proofs.Cases.{choices}
use Rattle.field.specs.Formats.{limit_of}
use Rattle.field.proofs.kind.Format.limit.Goals as goal

pub returns-then-self : goal.returns-then-self
unfolding limit_of
returns-then-self c = search (choices, arith)

pub returns-else-self : goal.returns-else-self
unfolding limit_of
returns-else-self c = search (choices, arith)
