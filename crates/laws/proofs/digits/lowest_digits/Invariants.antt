-- What is left agrees with the number in its n lowest digits, and has no more digits than are still counted.
use Prim.Native.Nat.{◌%◌, ◌^◌, ◌<◌}
use mathlib.Core.Path.{◌≡◌}
use Rattle.laws.proofs.digits.lowest_digits.Given as goal

abbrev pub invariant-loop-others : goal.invariant-loop-others
invariant-loop-others l = (l.rest % 10 ^ l.n ≡ l.x % 10 ^ l.n) × (l.rest < 10 ^ l.others)
