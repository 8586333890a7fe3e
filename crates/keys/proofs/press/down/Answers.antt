-- Each return is the case of the definition that the tests on its path choose.
use Rattle.laws.specs.Choice.{when◌then◌else◌}
use Rattle.keys.specs.Keys.{down_key}
use Rattle.keys.proofs.press.down.Goals as goal

pub returns-then-p : goal.returns-then-p
unfolding down_key when◌then◌else◌
returns-then-p c = simp (c.new.ensures, c.if-p.true)

pub returns-then-p-2 : goal.returns-then-p-2
unfolding down_key when◌then◌else◌
returns-then-p-2 c = simp (c.new-then-p-2.ensures, c.if-p.false, c.if-p-2.true)

pub returns-else-p-2 : goal.returns-else-p-2
unfolding down_key when◌then◌else◌
returns-else-p-2 c = simp (c.lower.ensures, c.if-p.false, c.if-p-2.false)
