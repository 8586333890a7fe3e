-- The invariant: the numbers left to read, put after those read, give the whole.
use Prim.Native.Nat.{◌+◌, ◌-◌}
use mathlib.Core.Path.{◌≡◌}
use lib.ListN.{length}
use Rattle.laws.specs.Overwrite.{over}
use Rattle.session_bytes.specs.Numbers.{numbers_from}
use Rattle.session_bytes.proofs.read.typed.Given as goal

abbrev pub invariant-loop-i : goal.invariant-loop-i
invariant-loop-i l = (over l.digit-items l.i (numbers_from 1 (8 - l.i) (222 + l.i) l.bytes) ≡ numbers_from 1 8 222 l.bytes) × (length l.digit-items ≡ 8)
