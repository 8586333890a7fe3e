-- The pieces, one after the other.
use mathlib.Core.List.{[], ◌∷◌, ◌++◌}
use native.Mathlib.Omega.{arith}
use mathlib.Core.Path.{refl}
use Rattle.session_bytes.specs.Numbers.{numbers_bytes}
use Rattle.session_bytes.specs.Layout.{mode_bytes, doing_bytes}
use Rattle.session_bytes.proofs.Layouts.{joined, length_mode, length_numbers}
use Rattle.session_bytes.proofs.Sized.{cells_length}
use Rattle.session_bytes.proofs.write.write_doing.Goals as goal

pub returns : goal.returns
unfolding doing_bytes
returns c = joined _ 84 93 (mode_bytes c.args.session.mode) ((c.args.session.work.at ∷ []) ++ (numbers_bytes 4 c.args.session.work.cells ++ numbers_bytes 1 c.args.session.typed)) c.write_mode.ensures (joined _ 93 94 (c.args.session.work.at ∷ []) (numbers_bytes 4 c.args.session.work.cells ++ numbers_bytes 1 c.args.session.typed) c.write_byte.ensures (joined _ 94 222 (numbers_bytes 4 c.args.session.work.cells) (numbers_bytes 1 c.args.session.typed) c.write_cells.ensures c.write_typed.ensures (omega (arith, length_numbers 4 c.args.session.work.cells, cells_length c.args.session _ c.well_formed.1.0))) refl) (omega (arith, length_mode c.args.session.mode))
