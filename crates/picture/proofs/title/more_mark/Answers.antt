-- Each return is the case of the definition that the tests on its path choose.
use mathlib.Core.Path.{sym, ◌∙◌}
use Rattle.laws.proofs.Cases.{if_le, if_gt, if_eq, if_ne}
use Rattle.picture.specs.Rows.{more_mark}
use Rattle.picture.proofs.title.more_mark.Goals as goal

pub returns-then-count-rows : goal.returns-then-count-rows
unfolding more_mark
returns-then-count-rows c = sym (if_le _ _ _ _ c.if-count-rows.true)

pub returns-then-cursor-count : goal.returns-then-cursor-count
unfolding more_mark
returns-then-cursor-count c = sym (if_gt _ _ _ _ c.if-count-rows.false ∙ if_eq _ _ _ _ c.if-cursor-count.true)

pub returns-else-cursor-count : goal.returns-else-cursor-count
unfolding more_mark
returns-else-cursor-count c = sym (if_gt _ _ _ _ c.if-count-rows.false ∙ if_ne _ _ _ _ c.if-cursor-count.false)
