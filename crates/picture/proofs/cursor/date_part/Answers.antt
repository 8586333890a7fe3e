-- Each return is the case of the definition that the tests on its path choose.
use mathlib.Core.Path.{sym}
use Rattle.laws.proofs.Cases.{if_eq, if_ne}
use Rattle.picture.specs.Cursor.{date_part}
use Rattle.picture.proofs.cursor.date_part.Goals as goal

pub returns-then-i-eq0 : goal.returns-then-i-eq0
unfolding date_part
returns-then-i-eq0 c = sym (if_eq _ 0 _ _ c.if-i-eq0.true)

pub returns : goal.returns
unfolding date_part
returns c = sym (if_ne _ 0 _ _ c.if-i-eq0.false)
