-- The digits of the cells that are left.
use native.Mathlib.Omega.{arith}
use mathlib.Core.Path.{◌≡◌}
use Prim.Native.Nat.{◌+◌, ◌-◌}
use Rattle.texts.proofs.Writing.{rest_within, rest_cell, rest_done}
use Rattle.texts.proofs.Texting.{digits_cell, length_digits}
use Rattle.texts.proofs.text.put_digits.Goals as goal

pub loop-i-init : goal.loop-i-init
loop-i-init c = let z : c.args.from + c.args.count - c.args.from ≡ c.args.count = omega arith in
    rw z (rest_within c.args.row.now _ c.args.at _ c.min-end.ensures, omega arith)

pub loop-i-preserved : goal.loop-i-preserved
loop-i-preserved c = (rest_cell c.loop-i.invariant.0 (digits_cell c.args.cells.now c.loop-i.i _ _ _ _ (omega arith) c.cell_at.ensures c.digit_char.ensures) c.put-end.ensures, omega (arith, c.put-end.ensures.ends, c.put-end.auto.row))

pub returns : goal.returns
returns c = rest_done c.loop-i.invariant.0 (omega (arith, length_digits c.args.cells.now c.loop-i.i (c.args.from + c.args.count - c.loop-i.i))) c.loop-i.invariant.1
