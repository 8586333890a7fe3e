-- What the callees ensure, put together.
use Rattle.session_bytes.specs.Layout.{session_in}
use Rattle.session_bytes.proofs.read.session_in.Goals as goal

pub returns : goal.returns
unfolding session_in
returns c = simp (c.levels.ensures, c.level_at.ensures, c.mode.ensures, c.cells.ensures, c.typed.ensures)
