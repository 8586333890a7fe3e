-- Each return is the case of the definition that the tests on its path choose.
use Rattle.laws.specs.Choice.{when◌then◌else◌}
use Rattle.keys.specs.Keys.{right_key}
use Rattle.keys.proofs.Choosing.{chosen_right}
use Rattle.keys.proofs.press.right.Goals as goal

pub returns-then-p : goal.returns-then-p
unfolding right_key when◌then◌else◌
returns-then-p c = simp (c.new.ensures, c.if-p.true)

pub returns-then-p-2 : goal.returns-then-p-2
unfolding right_key when◌then◌else◌
returns-then-p-2 c = simp (c.if-p.false, c.if-p-2.true, ← chosen_right _ _ _ _ c.choose.ensures c.next_cell.ensures)

pub returns-then-p-3 : goal.returns-then-p-3
unfolding right_key when◌then◌else◌
returns-then-p-3 c = simp (c.raise.ensures, c.if-p.false, c.if-p-2.false, c.if-p-3.true)

pub returns-else-p-3 : goal.returns-else-p-3
unfolding right_key when◌then◌else◌
returns-else-p-3 c = simp (c.new-else-p-3.ensures, c.if-p.false, c.if-p-2.false, c.if-p-3.false)
