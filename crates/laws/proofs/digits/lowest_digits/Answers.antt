-- What is left agrees with the number in its n lowest digits, and has no more digits than are still counted.
use native.Mathlib.Omega.{arith}
use Prim.Native.Nat.{◌+◌, ◌-◌, ◌*◌, ◌^◌, ◌≤◌, ◌<◌}
use mathlib.Core.Path.{◌≡◌, sym, ◌∙◌}
use native.Mathlib.Nat.{pow-le-pow_right, mod-eq_of_lt, mod-mod_of_dvd, dvd-mul_right}
use lib.Pow.{pow-add}
use Rattle.laws.proofs.Subtracting.{rest_is, rest_below}
use Rattle.laws.proofs.digits.lowest_digits.Goals as goal

pub loop-others-preserved : goal.loop-others-preserved
loop-others-preserved c = let l = c.loop-others in
    let n = c.args.n in
    let d = c.first_digit-rest in
    let count : l.others - 1 + 1 ≡ l.others = omega arith in
    let some : 0 < l.others = omega arith in
    let first = rw count at d.ensures.0 in
    let rest = rw count at d.ensures.1 in
    let parts : n + (l.others - 1 - n) ≡ l.others - 1 = omega arith in
    let whole : 10 ^ (l.others - 1) ≡ 10 ^ n * 10 ^ (l.others - 1 - n) = rw parts at (pow-add 10 n (l.others - 1 - n)) in (
      rw (rest_is 10 l.others l.rest d.result.digit d.result.rest (omega arith) some l.invariant.1 first rest, whole)
          (mod-mod_of_dvd (10 ^ n) l.rest (dvd-mul_right (10 ^ n) (10 ^ (l.others - 1 - n))) ∙ l.invariant.0),
      rest_below 10 l.others l.rest d.result.digit d.result.rest (omega arith) some l.invariant.1 first rest,
    )

pub returns : goal.returns
returns c = let l = c.loop-others in
    let n = c.args.n in
    let le : 10 ^ l.others ≤ 10 ^ n = pow-le-pow_right (omega arith) {i = l.others} {j = n} (omega arith) in
    let p : l.rest < 10 ^ n = omega arith in
    sym (mod-eq_of_lt p) ∙ l.invariant.0
