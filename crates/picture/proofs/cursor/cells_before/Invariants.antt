-- The loop: what is counted so far and the cells from here on are all of them, up to the end of counting.
use Prim.Native.Nat.{◌+◌, ◌-◌, ◌≤◌, min}
use mathlib.Core.Path.{◌≡◌}
use lib.ListN.{length}
use Rattle.cmf.specs.Places.{components_from}
use Rattle.picture.specs.Cursor.{cells_before}
use Rattle.picture.proofs.cursor.cells_before.Given as goal

abbrev pub invariant-loop : goal.invariant-loop
invariant-loop l = (l.sum ≤ 255) × (min 255 (l.sum + cells_before l.image l.place (components_from l.image (length l.image + 1 - l.counter) l.p)) ≡ min 255 (cells_before l.image l.place (components_from l.image (length l.image + 1) l.initial.p)))
