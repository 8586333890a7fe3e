-- The bytes so far are claimed.
use Prim.Native.Nat.{◌-◌}
use Rattle.quick.specs.Accept.{Claimed}
use Rattle.quick.proofs.claim.claim.Given as goal

abbrev pub invariant-loop-i : goal.invariant-loop-i
invariant-loop-i l = Claimed l.extent l.initial.marks l.marks l.from (l.i - l.from)
