-- Each return is the case of the definition that the tests on its path choose.
use Rattle.laws.specs.Choice.{when◌then◌else◌}
use native.Mathlib.Omega.{arith}
use Rattle.laws.proofs.Cases.{choices}
use Rattle.field.specs.Formats.{format_of}
use Rattle.field.proofs.kind.Format.of_code.Goals as goal

pub returns-in-0 : goal.returns-in-0
unfolding format_of
returns-in-0 c = search (choices, arith)

pub returns-in-1 : goal.returns-in-1
unfolding format_of when◌then◌else◌
returns-in-1 c = simp (c.new-in-1.ensures, c.in-1.is)

pub returns-in-2 : goal.returns-in-2
unfolding format_of when◌then◌else◌
returns-in-2 c = simp (c.new-in-2.ensures, c.in-2.is)

pub returns-in-3 : goal.returns-in-3
unfolding format_of when◌then◌else◌
returns-in-3 c = simp (c.new-in-3.ensures, c.in-3.is)

pub returns-in-4 : goal.returns-in-4
unfolding format_of when◌then◌else◌
returns-in-4 c = simp (c.new-in-4.ensures, c.in-4.is)

pub returns-in-5 : goal.returns-in-5
unfolding format_of when◌then◌else◌
returns-in-5 c = simp (c.new-in-5.ensures, c.in-5.is)

pub returns-in-6 : goal.returns-in-6
unfolding format_of when◌then◌else◌
returns-in-6 c = simp (c.new-in-6.ensures, c.in-6.is)

pub returns-in-7 : goal.returns-in-7
unfolding format_of when◌then◌else◌
returns-in-7 c = simp (c.new-in-7.ensures, c.in-7.is)

pub returns-in-8 : goal.returns-in-8
unfolding format_of when◌then◌else◌
returns-in-8 c = simp (c.new-in-8.ensures, c.in-8.is)

pub returns-in-9 : goal.returns-in-9
unfolding format_of when◌then◌else◌
returns-in-9 c = simp (c.new-in-9.ensures, c.in-9.is)

pub returns-in_default : goal.returns-in_default
unfolding format_of
returns-in_default c = search (choices, arith)
