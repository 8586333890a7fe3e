-- Each return is the case of the definition that the tests on its path choose.
use Rattle.laws.specs.Choice.{when◌then◌else◌}
use Rattle.field.specs.Formats.{half_of}
use Rattle.field.proofs.kind.Format.half.Goals as goal

pub returns-then-self : goal.returns-then-self
unfolding half_of when◌then◌else◌
returns-then-self c = simp (c.limit.ensures, c.if-self.true)

pub returns-else-self : goal.returns-else-self
unfolding half_of when◌then◌else◌
returns-else-self c = simp (c.limit-else-self.ensures, c.if-self.false)
