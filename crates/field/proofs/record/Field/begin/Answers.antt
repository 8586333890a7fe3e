-- Each return is the case of the definition that the tests on its path choose.
use Rattle.field.specs.Sheet.{begun}
use Rattle.field.proofs.record.Field.begin.Goals as goal

pub returns : goal.returns
unfolding begun
returns c = simp (c.start.ensures, c.load-value.ensures, c.profile_of.ensures)
