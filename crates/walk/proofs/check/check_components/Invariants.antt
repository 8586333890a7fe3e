-- The loop: the components from here on, done to the present state, come out as all of them do.
use Prim.Native.Nat.{◌+◌, ◌-◌}
use mathlib.Core.Path.{◌≡◌}
use lib.ListN.{length}
use Rattle.acceptance.specs.Check.{on_components}
use Rattle.acceptance.specs.Index.{capacity, seen}
use Rattle.acceptance.specs.Clean.{StaysClean}
use Rattle.cmf.specs.Places.{components_from}
use Rattle.walk.proofs.check.check_components.Given as goal

abbrev pub invariant-loop : goal.invariant-loop
invariant-loop l = (on_components l.image l.extent (capacity l.initial.index) (components_from l.image (length l.image + 1) l.p) (seen l.initial.v l.initial.index) ≡ on_components l.image l.extent (capacity l.initial.index) (components_from l.image (length l.image + 1 - l.counter) l.c) (seen l.v l.index)) × (length l.index ≡ length l.initial.index) × StaysClean l.initial.v.fields l.initial.index l.v.fields l.index
