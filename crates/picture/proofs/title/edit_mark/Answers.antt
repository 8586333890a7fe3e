-- Each return is the case of the definition that the tests on its path choose.
use mathlib.Core.Path.{refl}
use Rattle.session.proofs.Stepping.{head_there}
use Rattle.picture.proofs.Lines.{mark_is}
use Rattle.picture.proofs.title.edit_mark.Goals as goal

pub returns-in-Some-f : goal.returns-in-Some-f
returns-in-Some-f c = mark_is _ _ _ _ (head_there _ c.args.level _ _ c.read_head-h.result refl c.requires.0 c.read_head-h.ensures) c.first_editable-f.ensures (rw c.in-Some-f.is)

pub returns-in-None : goal.returns-in-None
returns-in-None c = mark_is _ _ _ _ (head_there _ c.args.level _ _ c.read_head-h.result refl c.requires.0 c.read_head-h.ensures) c.first_editable-f.ensures (rw c.in-None.is)
