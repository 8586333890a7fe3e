-- Each return is the case of the definition that the tests on its path choose.
use borrow.Author.Tests.{lt-ltb, le-ltb}
use Rattle.laws.specs.Choice.{when◌then◌else◌}
use Rattle.field.specs.Profiles.{cell_of}
use Rattle.field.proofs.profile.Cell.of_integer.Goals as goal

pub returns-then-i-signs : goal.returns-then-i-signs
unfolding cell_of when◌then◌else◌
returns-then-i-signs c = λ w. simp (c.flag.ensures, ← c.signs.ensures, lt-ltb _ _ c.if-i-signs.true)

pub returns-else-i-signs : goal.returns-else-i-signs
unfolding cell_of when◌then◌else◌
returns-else-i-signs c = λ w. simp (c.digit.ensures, ← c.signs.ensures, le-ltb _ _ c.if-i-signs.false)
