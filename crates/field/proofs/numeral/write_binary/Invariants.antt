-- The digits still to write, written onto the cells as they are, give the whole.
use Prim.Native.Nat.{◌^◌}
use mathlib.Core.Path.{◌≡◌}
use Rattle.laws.specs.Overwrite.{over}
use Rattle.laws.specs.Digits.{digits_of}
use Rattle.field.proofs.numeral.write_binary.Given as goal

abbrev pub invariant-loop-left : goal.invariant-loop-left
invariant-loop-left g l = over l.cells l.start (digits_of (2 ^ g.row.BITS) l.left l.rest) ≡ over l.initial.cells l.start (digits_of (2 ^ g.row.BITS) l.count l.x)
