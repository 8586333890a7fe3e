-- Each return is the case of the definition that the tests on its path choose.
use Rattle.laws.specs.Choice.{when◌then◌else◌}
use Rattle.keys.specs.Keys.{left_key}
use Rattle.keys.proofs.Choosing.{chosen_left}
use Rattle.keys.proofs.press.left.Goals as goal

pub returns-then-p : goal.returns-then-p
unfolding left_key when◌then◌else◌
returns-then-p c = simp (c.new.ensures, c.if-p.true)

pub returns-then-p-2 : goal.returns-then-p-2
unfolding left_key when◌then◌else◌
returns-then-p-2 c = simp (c.if-p.false, c.if-p-2.true, ← chosen_left _ _ _ c.choose.ensures c.checked_sub.ensures)

pub returns-then-p-3 : goal.returns-then-p-3
unfolding left_key when◌then◌else◌
returns-then-p-3 c = simp (c.lower.ensures, c.if-p.false, c.if-p-2.false, c.if-p-3.true)

pub returns-else-p-3 : goal.returns-else-p-3
unfolding left_key when◌then◌else◌
returns-else-p-3 c = simp (c.new-else-p-3.ensures, c.if-p.false, c.if-p-2.false, c.if-p-3.false)
