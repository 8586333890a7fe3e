-- By the tests in the code's order.
use native.Mathlib.Omega.{arith}
use Rattle.laws.proofs.Cases.{choices}
use Rattle.marker.specs.Marking.{verdict_of}
use Rattle.marker.proofs.verdict.Verdict.of.Goals as goal

pub returns-then-byte-default : goal.returns-then-byte-default
unfolding verdict_of
returns-then-byte-default c = search (choices, arith)

pub returns-then-byte-right : goal.returns-then-byte-right
unfolding verdict_of
returns-then-byte-right c = search (choices, arith)

pub returns-else-byte-right : goal.returns-else-byte-right
unfolding verdict_of
returns-else-byte-right c = search (choices, arith)
