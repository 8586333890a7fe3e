-- Each return is the case of the definition that the tests on its path choose.
use native.Mathlib.Omega.{arith}
use Rattle.laws.proofs.Cases.{choices}
use Rattle.field.specs.Settings.{digit_count}
use Rattle.field.proofs.settings.digit_count.Goals as goal

pub returns-then-x-lt10 : goal.returns-then-x-lt10
unfolding digit_count
returns-then-x-lt10 c = search (choices, arith)

pub returns-then-x-lt100 : goal.returns-then-x-lt100
unfolding digit_count
returns-then-x-lt100 c = search (choices, arith)

pub returns-then-x-lt1000 : goal.returns-then-x-lt1000
unfolding digit_count
returns-then-x-lt1000 c = search (choices, arith)

pub returns-then-x-lt10000 : goal.returns-then-x-lt10000
unfolding digit_count
returns-then-x-lt10000 c = search (choices, arith)

pub returns-else-x-lt10000 : goal.returns-else-x-lt10000
unfolding digit_count
returns-else-x-lt10000 c = search (choices, arith)
