-- Each return is the case of the definition that the tests on its path choose.
use Rattle.field.specs.Sheet.{finished_in}
use Rattle.field.proofs.record.Field.finish.Goals as goal

pub returns : goal.returns
unfolding finished_in
returns c = simp (c.put.ensures, c.finish.ensures)
