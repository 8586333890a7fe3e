-- The digits of what is left of the number are left to put.
use Prim.Native.Nat.{◌-◌, ◌^◌, ◌<◌, ◌≤◌}
use lib.ListN.{length}
use Rattle.texts.specs.Texts.{decimal}
use Rattle.texts.proofs.Writing.{Rest}
use Rattle.texts.proofs.text.put_decimal.Given as goal

abbrev pub invariant-loop-i : goal.invariant-loop-i
invariant-loop-i l = Rest l.initial.row l.at (decimal l.count l.x) l.row l.end (decimal (l.count - l.i) l.rest) × (l.rest < 10 ^ (l.count - l.i)) × (l.end ≤ length l.row)
