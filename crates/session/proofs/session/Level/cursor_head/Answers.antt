-- Each return is the case of the definition that the tests on its path choose.
use Rattle.session.specs.Fits.{cursor_head}
use Rattle.session.proofs.session.Level.cursor_head.Goals as goal

pub returns : goal.returns
unfolding cursor_head
returns c = simp (c.read_head.ensures, c.cursor_line.ensures)
