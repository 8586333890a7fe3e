-- What the callees ensure, put together.
use Rattle.cmf.proofs.component.field_of.Goals as goal

pub returns : goal.returns
returns c = simp (c.word_at.ensures, c.value_at.ensures)
