-- Each return is the case of the definition that the tests on its path choose.
use mathlib.Core.Path.{sym}
use Rattle.laws.proofs.Cases.{if_eq, if_ne}
use Rattle.picture.proofs.title.tens_char.Goals as goal

pub returns-then-tens-eq0 : goal.returns-then-tens-eq0
returns-then-tens-eq0 c = sym (if_eq _ 0 _ _ c.if-tens-eq0.true)

pub returns : goal.returns
returns c = sym (if_ne _ 0 _ _ c.if-tens-eq0.false)
