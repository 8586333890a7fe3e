-- The invariant: the levels left to write, written, give the whole.
use Prim.Native.Nat.{◌+◌, ◌*◌}
use mathlib.Core.Path.{◌≡◌}
use lib.ListN.{drop}
use Rattle.laws.specs.Overwrite.{over}
use Rattle.session_bytes.specs.Layout.{levels_bytes}
use Rattle.session_bytes.proofs.write.write_levels.Given as goal

abbrev pub invariant-loop-i : goal.invariant-loop-i
invariant-loop-i l = over l.bytes (3 + 10 * l.i) (levels_bytes (drop l.i l.level-items)) ≡ over l.fn.bytes 3 (levels_bytes l.level-items)
