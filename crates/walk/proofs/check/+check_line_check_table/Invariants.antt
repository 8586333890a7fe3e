-- Each return is a step law of CodeSteps; the loop's invariant: what is left of the table's lines, done to the present state, is the whole. The depth left falls.
use Prim.Native.Nat.{◌+◌, ◌-◌}
use mathlib.Core.Path.{◌≡◌}
use lib.ListN.{length}
use Rattle.acceptance.specs.Check.{on_lines, on_table}
use Rattle.acceptance.specs.Index.{capacity, seen}
use Rattle.acceptance.specs.Clean.{StaysClean}
use Rattle.cmf.specs.Places.{lines_from}
use Rattle.walk.proofs.check.+check_line_check_table.Given as goal

abbrev pub invariant-check_table-loop : goal.invariant-check_table-loop
invariant-check_table-loop l = (on_lines l.image l.extent (capacity l.initial.index) (on_table l.image l.extent (capacity l.initial.index) l.below) 0 0 (lines_from l.image 100 l.initial.line.at) (seen l.initial.v l.initial.index) ≡ on_lines l.image l.extent (capacity l.initial.index) (on_table l.image l.extent (capacity l.initial.index) l.below) l.line.number l.line.before (lines_from l.image (100 - l.line.number) l.line.at) (seen l.v l.index)) × (length l.index ≡ length l.initial.index) × StaysClean l.initial.v.fields l.initial.index l.v.fields l.index × (l.line.number ≡ l.counter)

abbrev pub decreases-check_line : goal.decreases-check_line
decreases-check_line l = l.below + l.below + 1

abbrev pub decreases-check_table : goal.decreases-check_table
decreases-check_table l = l.left + l.left
