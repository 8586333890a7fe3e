-- Past the cases of the code the number of digits is nine or more.
use Prim.Native.Nat.{◌≤◌, min}
use mathlib.Core.Path.{◌≡◌, refl}
use native.Mathlib.Omega.{arith}
use Rattle.laws.proofs.digits.power_of_ten.Goals as goal

pub returns-in_default : goal.returns-in_default
returns-in_default c =
    let most : 9 ≤ c.args.n = omega arith in
    let e : min c.args.n 9 ≡ 9 = omega arith in
    rw e refl
