-- The three pieces, one after the other.
use mathlib.Core.List.{[], ◌∷◌}
use native.Mathlib.Omega.{arith}
use Prim.Native.Nat.{◌+◌}
use Rattle.laws.specs.Digits.{low_first}
use Rattle.laws.proofs.Numerals.{length_low}
use Rattle.session_bytes.specs.Layout.{level_bytes}
use Rattle.session_bytes.proofs.Layouts.{joined}
use Rattle.session_bytes.proofs.write.write_level.Goals as goal

pub returns : goal.returns
unfolding level_bytes
returns c = joined _ c.args.at (c.args.at + 8) (low_first 8 c.args.level.table.0) (c.args.level.cursor ∷ c.args.level.first ∷ []) c.write_place.ensures (joined _ (c.args.at + 8) (c.args.at + 9) (c.args.level.cursor ∷ []) (c.args.level.first ∷ []) c.write_byte.ensures c.write_byte-2.ensures (omega arith)) (omega (arith, length_low 8 c.args.level.table.0))
