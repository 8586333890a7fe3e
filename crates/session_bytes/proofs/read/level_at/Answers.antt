-- What the callees ensure, put together.
use Rattle.session_bytes.specs.Layout.{level_from}
use Rattle.session_bytes.proofs.read.level_at.Goals as goal

pub returns : goal.returns
unfolding level_from
returns c = rw (c.place_at.ensures)
