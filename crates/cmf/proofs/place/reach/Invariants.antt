-- The walk: the line that is left to go to is found as the one asked for is.
use Prim.Native.Nat.{◌-◌, ◌≤◌}
use mathlib.Core.Path.{◌≡◌}
use Rattle.cmf.proofs.Finding.{ahead}
use Rattle.cmf.proofs.place.reach.Given as goal

abbrev pub invariant-loop : goal.invariant-loop
invariant-loop l = (l.k ≤ 99) × (ahead l.image (100 - l.k) (l.k - l.counter) l.p ≡ ahead l.image (100 - l.k) l.k l.initial.p)
