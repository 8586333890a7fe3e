-- Each return is the case that the test chooses.
use mathlib.Core.Path.{sym, ◌∙◌}
use Rattle.laws.proofs.Cases.{if_lt, if_ge}
use Rattle.cmf.proofs.text.item_place.Goals as goal

pub returns-then-place-image : goal.returns-then-place-image
returns-then-place-image c = c.item_from.ensures ∙ sym (if_lt _ _ _ _ c.if-place-image.true)

pub returns : goal.returns
returns c = sym (if_ge _ _ _ _ c.if-place-image.false)
