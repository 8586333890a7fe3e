-- A test as a number is a choice of 1 and 0.
use mathlib.Core.Path.{◌∙◌}
use Rattle.laws.proofs.Cases.{from_bool_when}
use Rattle.field.specs.Cells.{sign_of}
use Rattle.field.proofs.numeral.Numeral.sign.Goals as goal

pub returns : goal.returns
unfolding sign_of
returns c = c.from.ensures ∙ from_bool_when _
