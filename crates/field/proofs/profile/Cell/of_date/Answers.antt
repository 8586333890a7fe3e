-- Each return is the case of the definition that the tests on its path choose.
use native.Mathlib.Omega.{arith}
use mathlib.Core.Path.{◌≡◌}
use borrow.Author.Tests.{ne_eqb}
use Rattle.laws.specs.Choice.{when◌then◌else◌}
use Rattle.field.specs.Profiles.{cell_of}
use Rattle.field.proofs.profile.Cell.of_date.Goals as goal

pub returns-in-0 : goal.returns-in-0
unfolding cell_of when◌then◌else◌
returns-in-0 c = simp (c.year.ensures, c.in-0.is)

pub returns-in-1 : goal.returns-in-1
unfolding cell_of when◌then◌else◌
returns-in-1 c = simp (c.month.ensures, c.in-1.is)

pub returns-in_default : goal.returns-in_default
unfolding cell_of when◌then◌else◌
returns-in_default c = let a : c.args.i ≡ 0 → ⊥ = omega arith in
    let b : c.args.i ≡ 1 → ⊥ = omega arith in
    simp (c.day.ensures, c.end_of.ensures c.args.long, ne_eqb _ _ a, ne_eqb _ _ b)
