-- What is left has the year's place in the cycle, and is below the next span's double.
use Prim.Native.Nat.{◌*◌, ◌%◌, ◌^◌, ◌<◌}
use mathlib.Core.Path.{◌≡◌}
use Rattle.field.proofs.calendar.in_cycle.Given as goal

abbrev pub invariant-loop-turn : goal.invariant-loop-turn
invariant-loop-turn l = (l.rest < 400 * 2 ^ l.turn) × (l.rest % 400 ≡ l.year % 400)
