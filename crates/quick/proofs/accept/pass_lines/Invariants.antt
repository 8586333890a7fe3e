-- The run, and one component of another kind, as long as the line goes on.
use Prim.Native.Nat.{◌-◌}
use mathlib.Core.Path.{◌≡◌}
use mathlib.Core.Bool.{false}
use lib.ListN.{length}
use Rattle.quick.specs.Accept.{Moves}
use Rattle.quick.proofs.accept.pass_lines.Given as goal

abbrev pub invariant-loop-s : goal.invariant-loop-s
invariant-loop-s l = ((Moves l.image l.extent l.initial.s l.s l.initial.marks l.marks) × (l.s.done ≡ false)) × (length l.marks ≡ length l.initial.marks)

abbrev pub decreases-loop-s : goal.decreases-loop-s
decreases-loop-s l = length l.image - l.s.tally.at
