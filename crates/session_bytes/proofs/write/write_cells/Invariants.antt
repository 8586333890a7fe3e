-- The invariant: the cells left to write, written, give the whole.
use Prim.Native.Nat.{◌+◌, ◌*◌}
use mathlib.Core.Path.{◌≡◌}
use lib.ListN.{drop}
use Rattle.laws.specs.Overwrite.{over}
use Rattle.session_bytes.specs.Numbers.{numbers_bytes}
use Rattle.session_bytes.proofs.write.write_cells.Given as goal

abbrev pub invariant-loop-i : goal.invariant-loop-i
invariant-loop-i l = over l.bytes (94 + 4 * l.i) (numbers_bytes 4 (drop l.i l.cell-items)) ≡ over l.fn.bytes 94 (numbers_bytes 4 l.cell-items)
