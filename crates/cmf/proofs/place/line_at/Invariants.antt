-- The loop: as many lines from here on as are left lead to the line that was asked for.
use Prim.Native.Nat.{◌-◌}
use mathlib.Core.Path.{◌≡◌}
use Rattle.cmf.specs.Places.{line_from}
use Rattle.cmf.proofs.place.line_at.Given as goal

abbrev pub invariant-loop : goal.invariant-loop
invariant-loop l = line_from l.image (l.k - l.counter) l.p ≡ line_from l.image l.k l.initial.p
