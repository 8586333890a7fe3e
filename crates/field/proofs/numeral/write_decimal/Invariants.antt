-- The digits of what is left, written from the place reached on, give the whole.
use Prim.Native.Nat.{◌+◌, ◌-◌, ◌^◌, ◌<◌}
use mathlib.Core.Path.{◌≡◌}
use Rattle.laws.specs.Overwrite.{over}
use Rattle.laws.specs.Digits.{digits_of}
use Rattle.field.proofs.numeral.write_decimal.Given as goal

abbrev pub invariant-loop-i : goal.invariant-loop-i
invariant-loop-i l = (over l.cells (l.start + l.i) (digits_of 10 (l.count - l.i) l.rest) ≡ over l.initial.cells l.start (digits_of 10 l.count l.x)) × (l.rest < 10 ^ (l.count - l.i))
