-- Each return is the case of the definition that the tests on its path choose.
use Rattle.laws.specs.Choice.{when◌then◌else◌}
use borrow.Author.Tests.{ne_eqb}
use Rattle.field.specs.Cells.{minus}
use Rattle.field.proofs.numeral.Numeral.minus.Goals as goal

pub returns-then-self-ne0 : goal.returns-then-self-ne0
unfolding minus when◌then◌else◌
returns-then-self-ne0 c = simp (ne_eqb _ _ c.if-self-ne0.true)

pub returns-else-self-ne0 : goal.returns-else-self-ne0
unfolding minus when◌then◌else◌
returns-else-self-ne0 c = simp c.if-self-ne0.false
