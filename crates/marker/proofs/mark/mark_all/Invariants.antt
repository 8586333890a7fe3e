-- The loop's invariant: marking what is left from here is marking all; the sums so far, with 255 points for each open place, have room; and as many numbers
-- will be left over as of the whole key.
use Prim.Native.Nat.{◌+◌, ◌*◌, ◌%◌, ◌≤◌}
use mathlib.Core.Path.{◌≡◌}
use lib.ListN.{length}
use Rattle.marker.specs.Key.{questions_of}
use Rattle.marker.specs.Table.{open_in, no_points, sum_in, marked_by}
use Rattle.marker.proofs.mark.mark_all.Given as goal

abbrev pub invariant-loop-rest : goal.invariant-loop-rest
invariant-loop-rest l = record {
  marks : marked_by l.table l.sheet (questions_of l.rest) l.sums ≡ marked_by l.initial.table l.sheet (questions_of l.key) no_points;
  room : sum_in l.sums + 255 * open_in l.table ≤ 65280;
  over : length l.rest % 3 ≡ length l.key % 3;
}

abbrev pub decreases-loop-rest : goal.decreases-loop-rest
decreases-loop-rest l = length l.rest
