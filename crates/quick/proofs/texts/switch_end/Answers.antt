-- The tests are those of the grammar.
use mathlib.Core.Path.{refl}
use Rattle.field.specs.Profiles.{profile_of}
use Rattle.quick.proofs.Pieces.{switch_is}
use Rattle.quick.proofs.FixedFields.{held}
use native.Mathlib.Omega.{arith}
use Rattle.quick.proofs.texts.switch_end.Goals as goal

pub returns : goal.returns
unfolding profile_of
returns c = held _ (omega arith) (switch_is _ _ _ _ c.requires.1 (omega arith) (c.switch_fits.ensures c.if-not-switch_fits.false).1 refl c.in_ok-longest_of.ensures) refl refl
