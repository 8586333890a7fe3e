-- Each return is the case of the definition that the tests on its path choose.
use Rattle.laws.specs.Choice.{when◌then◌else◌}
use Rattle.cmf.specs.Readers.{title_at, title_by}
use Rattle.cmf.proofs.title.read_title.Goals as goal

pub returns-then-t : goal.returns-then-t
unfolding title_at title_by when◌then◌else◌
returns-then-t c = simp (← c.read_texts-t.ensures, c.if-t.true)

pub returns : goal.returns
unfolding title_at title_by when◌then◌else◌
returns c = simp (← c.read_texts-t.ensures, c.if-t.false)
