-- The number read so far is that of the digits passed, and stays below 2 ^ 64.
use Prim.Native.Nat.{◌+◌, ◌*◌, ◌^◌, ◌≤◌}
use mathlib.Core.Path.{◌≡◌}
use lib.ListN.{take}
use Rattle.laws.specs.Digits.{number_from}
use Rattle.field.proofs.numeral.Numeral.shown_by.Given as goal

abbrev pub invariant-loop-cell : goal.invariant-loop-cell
invariant-loop-cell l = (l.n ≡ number_from l.self.base 0 (take l.cell-index l.cell-items)) × (l.n + 4294967295 ≤ 4294967295 * l.self.base ^ l.cell-index)
