-- The invariant: the digits left to write, written, give the whole.
use Prim.Native.Nat.{◌+◌}
use mathlib.Core.Path.{◌≡◌}
use lib.ListN.{drop}
use Rattle.laws.specs.Overwrite.{over}
use Rattle.session_bytes.specs.Numbers.{numbers_bytes}
use Rattle.session_bytes.proofs.write.write_typed.Given as goal

abbrev pub invariant-loop-i : goal.invariant-loop-i
invariant-loop-i l = over l.bytes (222 + l.i) (numbers_bytes 1 (drop l.i l.digit-items)) ≡ over l.fn.bytes 222 (numbers_bytes 1 l.digit-items)
