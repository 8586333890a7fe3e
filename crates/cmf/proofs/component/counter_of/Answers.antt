-- What the callees ensure, put together.
use Rattle.cmf.proofs.component.counter_of.Goals as goal

pub returns : goal.returns
returns c = simp (c.bias.ensures, c.bias-2.ensures, c.word_at.ensures, c.word_at-2.ensures, c.word_at-3.ensures, c.byte_at.ensures)
