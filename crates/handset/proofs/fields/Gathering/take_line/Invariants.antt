-- The loop's invariant: with the components that are left, what is there comes to the whole.
use Prim.Native.Nat.{◌+◌, ◌-◌}
use mathlib.Core.Path.{◌≡◌}
use lib.ListN.{length}
use Rattle.cmf.specs.Places.{components_from}
use Rattle.handset.specs.Taking.{gathered}
use Rattle.handset.proofs.Filling.{gathered_at}
use Rattle.handset.proofs.fields.Gathering.take_line.Given as goal

abbrev pub invariant-loop : goal.invariant-loop
invariant-loop l = record {
  same_sheet : l.self.sheet.ghost_name ≡ l.initial.self.sheet.ghost_name;
  same_places : l.self.places.ghost_name ≡ l.initial.self.places.ghost_name;
  taken : gathered_at l.image (components_from l.image (length l.image + 1 - l.counter) l.at) (gathered l.self.sheet.now l.self.count l.self.places.now)
      ≡ gathered_at l.image (components_from l.image (length l.image + 1) l.component) (gathered l.initial.self.sheet.now l.initial.self.count l.initial.self.places.now);
}
