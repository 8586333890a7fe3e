-- The three bytes, one after the other.
use mathlib.Core.List.{[], ◌∷◌}
use mathlib.Core.Path.{refl}
use Rattle.session_bytes.proofs.Layouts.{joined}
use Rattle.session_bytes.proofs.write.write_shape.Goals as goal

pub returns : goal.returns
returns c = joined _ 0 1 (c.args.columns ∷ []) (c.args.lines ∷ c.args.outer ∷ []) c.write_byte.ensures (joined _ 1 2 (c.args.lines ∷ []) (c.args.outer ∷ []) c.write_byte-2.ensures c.write_byte-3.ensures refl) refl
