-- Each return is the case of the definition that the tests on its path choose.
use mathlib.Core.Path.{sym}
use Rattle.laws.proofs.Cases.{if_true, if_false}
use Rattle.texts.specs.Texts.{year_cells}
use Rattle.texts.proofs.text.year_cells.Goals as goal

pub returns-then-long : goal.returns-then-long
unfolding year_cells
returns-then-long c = sym (if_true _ _ c.if-long.true)

pub returns-else-long : goal.returns-else-long
unfolding year_cells
returns-else-long c = sym (if_false _ _ c.if-long.false)
