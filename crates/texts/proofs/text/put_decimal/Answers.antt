-- The digits of what is left of the number are left to put.
use Prim.Native.Nat.{◌+◌, ◌-◌, ◌^◌, ◌<◌}
use mathlib.Core.Path.{◌≡◌}
use native.Mathlib.Nat.{one-le-pow, mod-lt}
use native.Mathlib.Omega.{arith}
use Rattle.laws.proofs.Subtracting.{rest_below}
use Rattle.texts.proofs.Writing.{rest_within, rest_cell, rest_done}
use Rattle.texts.proofs.Texting.{decimal_low, decimal_first, length_decimal}
use Rattle.texts.proofs.text.put_decimal.Goals as goal

pub loop-i-init : goal.loop-i-init
loop-i-init c = let a = c.args in
    let pos : 0 < 10 ^ a.count = one-le-pow a.count 10 (omega arith) in
    let z : a.count - 0 ≡ a.count = omega arith in
    rw (z, c.lowest_digits-rest.ensures, decimal_low a.count a.x) (rest_within a.row.now _ a.at _ c.min-end.ensures, mod-lt a.x pos, omega arith)

pub loop-i-preserved : goal.loop-i-preserved
loop-i-preserved c = let l = c.loop-i in
    let d = c.first_digit-d in
    let left = c.args.count - l.i in
    let some : 0 < left = omega arith in
    let z : c.args.count - (l.i + 1) ≡ c.args.count - l.i - 1 = omega arith in
    rw z (
      rest_cell l.invariant.0 (decimal_first left l.rest d.result.digit d.result.rest some l.invariant.1 d.ensures.0 d.ensures.1) c.put-end.ensures,
      rest_below 10 left l.rest d.result.digit d.result.rest (omega arith) some l.invariant.1 d.ensures.0 d.ensures.1,
      omega (arith, c.put-end.ensures.ends, c.put-end.auto.row),
    )

pub returns : goal.returns
returns c = rest_done c.loop-i.invariant.0 (omega (arith, length_decimal (c.args.count - c.loop-i.i) c.loop-i.rest)) c.loop-i.invariant.2
