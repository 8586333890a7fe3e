-- Each return is the case of the definition that the tests on its path choose.
use Rattle.field.specs.Sheet.{default_written}
use Rattle.field.proofs.record.Field.write_default.Goals as goal

pub returns : goal.returns
unfolding default_written
returns c = c.put.ensures
