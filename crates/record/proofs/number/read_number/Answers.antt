-- Each return is the case of the definition that the tests on its path choose.
use native.Mathlib.Omega.{arith}
use Rattle.laws.proofs.Cases.{choices}
use Rattle.record.specs.Numbers.{number_at}
use Rattle.record.proofs.number.read_number.Goals as goal

pub returns-in_err-a : goal.returns-in_err-a
unfolding number_at
returns-in_err-a c = search (choices, arith)

pub returns-then-a-lt128 : goal.returns-then-a-lt128
unfolding number_at
returns-then-a-lt128 c = search (choices, arith)

pub returns-then-a-eq128 : goal.returns-then-a-eq128
unfolding number_at
returns-then-a-eq128 c = search (choices, arith)

pub returns-in_err-b : goal.returns-in_err-b
unfolding number_at
returns-in_err-b c = search (choices, arith)

pub returns-then-b-lt128 : goal.returns-then-b-lt128
unfolding number_at
returns-then-b-lt128 c = search (choices, arith)

pub returns-in_err-c : goal.returns-in_err-c
unfolding number_at
returns-in_err-c c = search (choices, arith)

pub returns-then-c-ge128 : goal.returns-then-c-ge128
unfolding number_at
returns-then-c-ge128 c = search (choices, arith)

pub returns : goal.returns
unfolding number_at
returns c = search (choices, arith)
