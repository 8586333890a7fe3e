-- What is left to copy, written onto what is there, is the whole; and the bytes end by the end.
use Prim.Native.Nat.{◌+◌, ◌≤◌}
use mathlib.Core.Path.{◌≡◌}
use lib.ListN.{length, drop}
use Rattle.laws.specs.Overwrite.{over}
use Rattle.laws.proofs.put_bytes.Given as goal

abbrev pub invariant-loop-i : goal.invariant-loop-i
invariant-loop-i l = (over l.s (l.at + l.i) (drop l.i l.bytes) ≡ over l.initial.s l.at l.bytes) × (l.at + length l.bytes ≤ length l.initial.s)
