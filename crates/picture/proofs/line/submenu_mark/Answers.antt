-- Each return is the case of the definition that the tests on its path choose.
use mathlib.Core.Path.{sym, ◌∙◌}
use Rattle.laws.proofs.Cases.{if_true, if_false}
use Rattle.picture.specs.Rows.{submenu_mark}
use Rattle.picture.proofs.line.submenu_mark.Goals as goal

pub returns-then-h : goal.returns-then-h
unfolding submenu_mark
returns-then-h c = sym (if_true _ _ c.if-h.true)

pub returns-then-h-2 : goal.returns-then-h-2
unfolding submenu_mark
returns-then-h-2 c = sym (if_false _ _ c.if-h.false ∙ if_true _ _ c.if-h-2.true)

pub returns-else-h-2 : goal.returns-else-h-2
unfolding submenu_mark
returns-else-h-2 c = sym (if_false _ _ c.if-h.false ∙ if_false _ _ c.if-h-2.false)
