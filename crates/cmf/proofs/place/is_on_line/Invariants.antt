-- The loop: the place is one of those from here on if it is one of all.
use Prim.Native.Nat.{◌+◌, ◌-◌}
use mathlib.Core.Path.{◌≡◌}
use lib.ListN.{length}
use Rattle.cmf.specs.Places.{components_from, is_in}
use Rattle.cmf.proofs.place.is_on_line.Given as goal

abbrev pub invariant-loop : goal.invariant-loop
invariant-loop l = is_in l.place (components_from l.image (length l.image + 1 - l.counter) l.c) ≡ is_in l.place (components_from l.image (length l.image + 1) l.initial.c)
