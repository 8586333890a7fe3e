-- The pieces, one after the other.
use mathlib.Core.List.{[], ◌∷◌, ◌++◌}
use native.Mathlib.Omega.{arith}
use mathlib.Core.Path.{refl}
use Rattle.session_bytes.specs.Layout.{level_bytes, levels_bytes, shown_bytes}
use Rattle.session_bytes.proofs.Layouts.{joined, length_level, length_levels}
use Rattle.session.proofs.Sized.{above_length}
use Rattle.session_bytes.proofs.write.write_shown.Goals as goal

pub returns : goal.returns
unfolding shown_bytes
returns c = joined _ 0 3 (c.args.session.columns ∷ c.args.session.lines ∷ c.args.session.outer ∷ []) (levels_bytes c.args.session.above ++ (level_bytes c.args.session.here ++ (c.args.session.idle ∷ []))) c.write_shape.ensures (joined _ 3 73 (levels_bytes c.args.session.above) (level_bytes c.args.session.here ++ (c.args.session.idle ∷ [])) c.write_levels.ensures (joined _ 73 83 (level_bytes c.args.session.here) (c.args.session.idle ∷ []) c.write_level.ensures c.write_byte.ensures (omega (arith, length_level c.args.session.here))) (omega (arith, length_levels c.args.session.above, above_length c.args.session _ c.well_formed.1.0))) refl
