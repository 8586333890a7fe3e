-- What the callees ensure, put together.
use Rattle.session_bytes.specs.Layout.{levels_from}
use Rattle.session_bytes.proofs.read.levels.Goals as goal

pub returns : goal.returns
unfolding levels_from
returns c = rw (c.level_at.ensures, c.level_at-2.ensures, c.level_at-3.ensures, c.level_at-4.ensures, c.level_at-5.ensures, c.level_at-6.ensures, c.level_at-7.ensures)
