-- The digits of the cells that are left.
use Prim.Native.Nat.{◌+◌, ◌-◌, ◌≤◌}
use lib.ListN.{length}
use Rattle.texts.specs.Texts.{digit_cells}
use Rattle.texts.proofs.Writing.{Rest}
use Rattle.texts.proofs.text.put_digits.Given as goal

abbrev pub invariant-loop-i : goal.invariant-loop-i
invariant-loop-i l = Rest l.initial.row l.at (digit_cells l.cells l.from l.count) l.row l.end (digit_cells l.cells l.i (l.from + l.count - l.i)) × (l.end ≤ length l.row)
