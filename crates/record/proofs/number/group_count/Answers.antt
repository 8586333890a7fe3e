-- Each return is the case of the definition that the tests on its path choose.
use native.Mathlib.Omega.{arith}
use Rattle.laws.proofs.Cases.{choices}
use Rattle.record.specs.Numbers.{encoded}
use Rattle.record.proofs.number.group_count.Goals as goal

pub returns-then-n-lt128 : goal.returns-then-n-lt128
unfolding encoded
returns-then-n-lt128 c = search (choices, arith)

pub returns-then-n-lt16384 : goal.returns-then-n-lt16384
unfolding encoded
returns-then-n-lt16384 c = search (choices, arith)

pub returns-else-n-lt16384 : goal.returns-else-n-lt16384
unfolding encoded
returns-else-n-lt16384 c = search (choices, arith)
