-- A number of 32 bits is below every power that 32 bits do not hold.
use native.Mathlib.Omega.{arith}
use Prim.Native.Nat.{◌^◌, ◌≤◌, ◌<◌, min}
use mathlib.Core.Path.{◌≡◌, sym, ◌∙◌}
use native.Mathlib.Nat.{pow-le-pow_right}
use borrow.Author.Tests.{lt-ltb, le-leb}
use Rattle.laws.proofs.digits.is_shown.Goals as goal

pub returns-then-n-ge-MOST : goal.returns-then-n-ge-MOST
returns-then-n-ge-MOST c = let a = c.args in
    let le : 10 ^ 10 ≤ 10 ^ a.n = pow-le-pow_right (omega arith) {i = 10} {j = a.n} (omega arith) in
    let p : a.x < 10 ^ a.n = omega arith in
    le-leb 10 a.n c.if-n-ge-MOST.true ∙ sym (lt-ltb a.x (10 ^ a.n) p)

pub returns-else-n-ge-MOST : goal.returns-else-n-ge-MOST
returns-else-n-ge-MOST c = let few : min c.args.n 9 ≡ c.args.n = omega arith in
    rw (c.power_of_ten.ensures, few)
