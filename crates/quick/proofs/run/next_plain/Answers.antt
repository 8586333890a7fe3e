-- The next line.
use Prim.Native.Nat.{◌+◌}
use mathlib.Core.Path.{refl}
use native.Mathlib.Omega.{arith}
use Rattle.quick.proofs.run.next_plain.Goals as goal

pub returns : goal.returns
returns c =
    let h = c.in_ok-end.ensures in
    rw c.headed.ensures
    (refl, record { more = omega (arith, c.if-image-line-eq1.false); plain = omega (arith, c.if-image-line-eq1-2.false); counted = refl; few = omega arith; there = c.next_of-next.ensures.0; head = record { room = omega arith; inside = h.0; aligned = h.1.0; head = h.1.1 (c.args.n + 1) (omega arith) }; tally = refl })
