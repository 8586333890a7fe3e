-- What is left has the year's place in the cycle, and is below the next span's double.
use native.Mathlib.Omega.{arith}
use Prim.Native.Nat.{ℕ, zero, suc, ◌-◌, ◌*◌, ◌%◌, ◌^◌, ◌≤◌, ◌<◌}
use mathlib.Core.Path.{◌≡◌}
use native.Mathlib.Nat.{pow-suc, pow-le-pow_right, mod-eq_of_lt}
use Rattle.field.proofs.calendar.in_cycle.Goals as goal

-- a power of 2 is twice the one before
halved : (n : ℕ) → 0 < n → 2 ^ n ≡ 2 * 2 ^ (n - 1)
halved zero h = absurd (omega arith)
halved (suc n) h = let e : suc n - 1 ≡ n = omega arith in rw (e, pow-suc) (omega arith)

-- the longest span fits
span_is : (n : ℕ) → n ≤ 23 → (400 * 2 ^ n) % 4294967296 ≡ 400 * 2 ^ n
span_is n h =
    let p : 2 ^ n ≤ 2 ^ 23 = pow-le-pow_right (omega arith) {i = n} {j = 23} h in
    mod-eq_of_lt (omega arith)

pub loop-turn-preserved-then-span-rest : goal.loop-turn-preserved-then-span-rest
loop-turn-preserved-then-span-rest c = let n = c.loop-turn.turn in
    let h = halved n (omega arith) in
    let s = span_is (n - 1) (omega arith) in
    rw s (omega arith, omega arith)
