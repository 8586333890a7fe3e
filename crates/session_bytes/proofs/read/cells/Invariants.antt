-- The invariant: the numbers left to read, put after those read, give the whole.
use Prim.Native.Nat.{◌+◌, ◌-◌, ◌*◌}
use mathlib.Core.Path.{◌≡◌}
use lib.ListN.{length}
use Rattle.laws.specs.Overwrite.{over}
use Rattle.session_bytes.specs.Numbers.{numbers_from}
use Rattle.session_bytes.proofs.read.cells.Given as goal

abbrev pub invariant-loop-i : goal.invariant-loop-i
invariant-loop-i l = (over l.cell-items l.i (numbers_from 4 (32 - l.i) (94 + 4 * l.i) l.bytes) ≡ numbers_from 4 32 94 l.bytes) × (length l.cell-items ≡ 32)
