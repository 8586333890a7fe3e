-- What has been subtracted and what is left make up the number.
use native.Mathlib.Omega.{arith}
use Prim.Native.Nat.{ℕ, ◌+◌, ◌-◌, ◌*◌, ◌/◌, ◌^◌, ◌≤◌, ◌<◌, min}
use mathlib.Core.Path.{◌≡◌}
use native.Mathlib.Nat.{one-le-pow, pow-le-pow_right, mul-add-div_right, div-eq_of_lt}
use Rattle.laws.proofs.digits.first_digit.Goals as goal

-- a number with so much subtracted
quotient : {x p : ℕ} (d r : ℕ) → 0 < p → d * p + r ≡ x → x / p ≡ d + r / p
quotient d r pos e = rw (← e) (mul-add-div_right pos d r)

pub returns-then-n-gt-MOST : goal.returns-then-n-gt-MOST
returns-then-n-gt-MOST c = let a = c.args in
    let le : 10 ^ 10 ≤ 10 ^ (a.n - 1) = pow-le-pow_right (omega arith) {i = 10} {j = a.n - 1} (omega arith) in
    let p : a.x < 10 ^ (a.n - 1) = omega arith in
    (omega (arith, div-eq_of_lt p), omega arith)

pub loop-digit-init : goal.loop-digit-init
loop-digit-init c = let n = c.args.n in
    let few : min (n - 1) 9 ≡ n - 1 = omega arith in
    let power : c.power_of_ten-power.result ≡ 10 ^ (n - 1) = rw few at c.power_of_ten-power.ensures in
    let pos : 0 < 10 ^ (n - 1) = one-le-pow (n - 1) 10 (omega arith) in
    (power, rw power pos, omega arith)
