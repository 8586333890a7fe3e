-- The loop: the lines counted and those from here on are all of the table.
use Prim.Native.Nat.{◌+◌, ◌-◌}
use mathlib.Core.Path.{◌≡◌}
use lib.ListN.{length}
use Rattle.cmf.specs.Places.{lines_from}
use Rattle.cmf.proofs.place.line_count.Given as goal

abbrev pub invariant-loop-n : goal.invariant-loop-n
invariant-loop-n l = l.n + length (lines_from l.image (100 - l.n) l.p) ≡ length (lines_from l.image 100 l.initial.p)
