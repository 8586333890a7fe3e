-- Each return is the case of the definition that the tests on its path choose.
use Rattle.laws.specs.Choice.{when◌then◌else◌}
use Rattle.field.proofs.kind.Format.bytes.Goals as goal

pub returns-then-self : goal.returns-then-self
unfolding when◌then◌else◌
returns-then-self c = rw c.if-self.true

pub returns-else-self : goal.returns-else-self
unfolding when◌then◌else◌
returns-else-self c = rw c.if-self.false
