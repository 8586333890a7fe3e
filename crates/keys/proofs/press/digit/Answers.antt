-- Each return is the case of the definition that the tests on its path choose.
use Rattle.laws.specs.Choice.{when◌then◌else◌}
use Rattle.keys.specs.Keys.{digit_key}
use Rattle.keys.proofs.Choosing.{right_or_last}
use Rattle.keys.proofs.press.digit.Goals as goal

pub returns-then-c : goal.returns-then-c
unfolding digit_key when◌then◌else◌
returns-then-c c = simp (c.new.ensures, c.with_chosen.ensures, c.if-c.true, c.unwrap_or-at.ensures, right_or_last c.args.w c.args.p _ c.next_cell.ensures)

pub returns-else-c : goal.returns-else-c
unfolding digit_key when◌then◌else◌
returns-else-c c = simp (c.new-else-c.ensures, c.if-c.false)
