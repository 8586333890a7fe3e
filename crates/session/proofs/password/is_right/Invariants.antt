-- The loop: the digits up to here are right.
use Prim.Native.Nat.{◌+◌}
use mathlib.Core.Path.{◌≡◌}
use mathlib.Core.Bool.{true}
use Rattle.session.specs.Passwords.{right_to}
use Rattle.session.proofs.password.is_right.Given as goal

abbrev pub invariant-loop-i : goal.invariant-loop-i
invariant-loop-i l = right_to l.image (l.password + 1) l.typed l.i ≡ true
