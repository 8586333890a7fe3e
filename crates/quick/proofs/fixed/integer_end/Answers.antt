-- A number in range is a default that fits.
use mathlib.Core.Path.{refl}
use Rattle.laws.proofs.Cases.{via}
use Rattle.quick.proofs.FixedFields.{integer_is}
use native.Mathlib.Omega.{arith}
use Rattle.quick.proofs.fixed.integer_end.Goals as goal

pub returns : goal.returns
returns c = integer_is _ _ _ (omega arith) _ _ c.requires.tag.1 c.requires.sizes refl c.number_in.ensures.byte c.number_in.ensures.word (via c.is_in_code.ensures c.if-not-is_in_code.false)
