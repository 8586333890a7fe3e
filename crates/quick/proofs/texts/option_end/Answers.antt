-- The tests are those of the grammar.
use mathlib.Core.Path.{refl}
use Rattle.quick.proofs.Pieces.{option_is}
use native.Mathlib.Omega.{arith}
use Rattle.quick.proofs.texts.option_end.Goals as goal

pub returns : goal.returns
returns c = option_is c.args.image.now c.args.at _ c.requires.1 (omega (arith, c.requires.0)) (omega arith) refl (rw c.if-longest-image.false at c.in_ok-longest.ensures)
