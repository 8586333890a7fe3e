-- What the callees ensure, put together.
use Rattle.handset.proofs.open.refused.Goals as goal

pub returns : goal.returns
returns c = simp (c.number.ensures, c.closed.ensures)
