-- Each return is the case of the definition that the test chooses.
use mathlib.Core.Path.{sym}
use Rattle.laws.proofs.Cases.{if_eq, if_ne}
use Rattle.picture.proofs.picture.chosen.Goals as goal

pub returns-then-k-cursor : goal.returns-then-k-cursor
returns-then-k-cursor g c = sym (if_eq _ _ _ _ c.if-k-cursor.true)

pub returns-else-k-cursor : goal.returns-else-k-cursor
returns-else-k-cursor g c = sym (if_ne _ _ _ _ c.if-k-cursor.false)
