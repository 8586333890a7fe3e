-- The loop: the rows that are left, written onto the picture as it is, are all of them written onto the picture as it was;
-- the lines are counted up to this one, and the cursor line's place and mark are known once it is passed.
use Prim.Native.Nat.{◌+◌, ◌-◌, ◌*◌, ◌≤◌, ◌<◌, min}
use mathlib.Core.Path.{◌≡◌}
use lib.ListN.{length}
use Rattle.laws.specs.Overwrite.{over}
use Rattle.cmf.specs.Places.{line_at, line_count}
use Rattle.picture.specs.Rows.{edit_mark, rows_from}
use Rattle.picture.specs.Marks.{Tells}
use Rattle.picture.proofs.picture.put_rows.Given as goal

abbrev pub invariant-loop : goal.invariant-loop
invariant-loop l = (length l.picture ≡ length l.initial.picture) × (l.at + (l.session.lines - l.counter) * l.columns ≡ length l.initial.picture) × (over l.picture l.at (rows_from l.image l.sheet l.session (line_count l.image l.table) (l.session.lines - l.counter) l.k l.p) ≡ over l.initial.picture l.initial.at (rows_from l.image l.sheet l.session (line_count l.image l.table) (l.session.lines - 1) l.initial.k l.initial.p)) × (l.p ≡ line_at l.image l.table l.k) × (l.count ≡ min (l.k + 1) (line_count l.image l.table)) × (l.initial.k ≤ l.here.cursor → l.here.cursor < l.k → l.cursor ≡ line_at l.image l.table l.here.cursor) × (l.k + 1 ≡ l.initial.k + l.counter) × Tells l.marked (edit_mark l.image l.here)
