-- The tests are those of the grammar.
use mathlib.Core.Path.{refl}
use Rattle.quick.proofs.Pieces.{string_is}
use native.Mathlib.Omega.{arith}
use Rattle.quick.proofs.components.string_end.Goals as goal

pub returns : goal.returns
returns c = string_is _ _ _ c.requires.1 refl (omega arith)
