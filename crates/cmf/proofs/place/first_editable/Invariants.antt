-- The loop: the first of the components from here on is the first of all.
use Prim.Native.Nat.{◌+◌, ◌-◌}
use mathlib.Core.Path.{◌≡◌}
use lib.ListN.{length}
use Rattle.cmf.specs.Places.{components_from, first_editable}
use Rattle.cmf.proofs.place.first_editable.Given as goal

abbrev pub invariant-loop : goal.invariant-loop
invariant-loop l = first_editable l.image (components_from l.image (length l.image + 1 - l.counter) l.p) ≡ first_editable l.image (components_from l.image (length l.image + 1) l.from)
