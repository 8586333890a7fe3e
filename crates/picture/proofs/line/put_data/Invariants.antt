-- The loop: what the components from here on show is left; while there is no mark, it is that of the components from here on.
use Prim.Native.Nat.{◌+◌, ◌-◌}
use mathlib.Core.Path.{◌≡◌}
use lib.ListN.{length}
use Rattle.std.specs.Prelude.{None}
use Rattle.cmf.specs.Places.{components_from, first_editable}
use Rattle.picture.specs.Rows.{data_text, mark_of}
use Rattle.picture.specs.Marks.{Tells}
use Rattle.texts.proofs.Writing.{Rest}
use Rattle.picture.proofs.line.put_data.Given as goal

abbrev pub invariant-loop : goal.invariant-loop
invariant-loop l = Rest l.initial.row l.start (data_text l.image l.sheet l.session (components_from l.image (length l.image + 1) l.first)) l.row l.at (data_text l.image l.sheet l.session (components_from l.image (length l.image + 1 - l.counter) l.p)) × (l.mark ≡ None → mark_of (first_editable l.image (components_from l.image (length l.image + 1 - l.counter) l.p)) ≡ mark_of (first_editable l.image (components_from l.image (length l.image + 1) l.first))) × Tells l.mark (mark_of (first_editable l.image (components_from l.image (length l.image + 1) l.first)))
