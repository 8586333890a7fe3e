-- Each return is the case of the definition that the tests on its path choose.
use Rattle.cmf.specs.Readers.{image_of}
use Rattle.cmf.proofs.image.Image.read.Goals as goal

pub returns : goal.returns
unfolding image_of
returns c = simp (c.byte_at.ensures, c.byte_at-2.ensures)
