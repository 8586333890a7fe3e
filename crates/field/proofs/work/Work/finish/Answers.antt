-- Each return is the case of the definition that the tests on its path choose.
use Rattle.field.specs.Cells.{finished}
use Rattle.field.proofs.work.Work.finish.Goals as goal

pub returns : goal.returns
unfolding finished
returns c = simp (c.from_number.ensures, c.stored.ensures, c.profile_of.ensures)
