-- The loop's invariant: with the lines that are left, what is there comes to the whole table. The depth left falls.
use Prim.Native.Nat.{◌-◌}
use mathlib.Core.Path.{◌≡◌}
use Rattle.cmf.specs.Places.{table_reach}
use Rattle.handset.specs.Taking.{gathered}
use Rattle.handset.proofs.Filling.{gathered_at, rest}
use Rattle.handset.proofs.fields.Gathering.+take_table.Given as goal

abbrev pub invariant-loop : goal.invariant-loop
invariant-loop l = record {
  same_sheet : l.self.sheet.ghost_name ≡ l.initial.self.sheet.ghost_name;
  same_places : l.self.places.ghost_name ≡ l.initial.self.places.ghost_name;
  taken : rest l.image (l.left - 1) l.counter l.line (gathered l.self.sheet.now l.self.count l.self.places.now)
      ≡ gathered_at l.image (table_reach l.image l.left l.table) (gathered l.initial.self.sheet.now l.initial.self.count l.initial.self.places.now);
}

abbrev pub decreases-take_table : goal.decreases-take_table
decreases-take_table l = l.left
