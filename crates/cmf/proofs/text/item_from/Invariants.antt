-- The loop: the item that is left to go to is the one that was asked for.
use Prim.Native.Nat.{◌-◌}
use mathlib.Core.Path.{◌≡◌}
use Rattle.cmf.specs.Readers.{item_from}
use Rattle.cmf.proofs.text.item_from.Given as goal

abbrev pub invariant-loop : goal.invariant-loop
invariant-loop l = item_from l.image (l.k - l.counter) l.place ≡ item_from l.image l.k l.at
