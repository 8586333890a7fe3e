-- The loop: the bytes that are left are digits if all are.
use Prim.Native.Nat.{◌+◌, ◌-◌}
use mathlib.Core.Path.{◌≡◌}
use Rattle.cmf.specs.Readers.{all_digits}
use Rattle.cmf.proofs.text.all_digits.Given as goal

abbrev pub invariant-loop-k : goal.invariant-loop-k
invariant-loop-k l = all_digits l.image (l.at + l.count - l.k) l.k ≡ all_digits l.image l.count l.at
