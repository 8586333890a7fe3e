-- The loop's invariant: with the places that are left entered, the table is the whole.
use mathlib.Core.Path.{◌≡◌}
use Rattle.marker.specs.Table.{fields_read, with_fields}
use Rattle.marker.proofs.table.enter_all.Given as goal

abbrev pub invariant-loop-place : goal.invariant-loop-place
invariant-loop-place l = with_fields (fields_read l.image l.place-iterator.iter.rest.now) l.table ≡ with_fields (fields_read l.image l.places) l.initial.table
