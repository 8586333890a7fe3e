-- What has been subtracted and what is left make up the number.
use Prim.Native.Nat.{◌+◌, ◌-◌, ◌*◌, ◌^◌, ◌<◌}
use mathlib.Core.Path.{◌≡◌}
use Rattle.laws.proofs.digits.first_digit.Given as goal

abbrev pub invariant-loop-digit : goal.invariant-loop-digit
invariant-loop-digit l = (l.power ≡ 10 ^ (l.n - 1)) × (0 < l.power) × (l.digit * l.power + l.rest ≡ l.x)
