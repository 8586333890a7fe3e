-- The digits of what is left, written from the place reached on, give the whole.
use native.Mathlib.Omega.{arith}
use native.Mathlib.Nat.{one-le-pow, mod-lt}
use Prim.Native.Nat.{suc, ◌^◌, ◌-◌, ◌+◌, ◌<◌}
use mathlib.Core.Path.{◌≡◌, sym, ◌∙◌}
use Rattle.laws.specs.Digits.{digits_of}
use Rattle.laws.proofs.Overwriting.{over_nil}
use Rattle.laws.proofs.Subtracting.{digits_low, rest_below, power_turn}
use Rattle.field.proofs.numeral.write_decimal.Goals as goal

pub loop-i-init : goal.loop-i-init
loop-i-init c = let a = c.args in
    let pos : 0 < 10 ^ a.count = one-le-pow a.count 10 (omega arith) in
    let e : a.start + 0 ≡ a.start = omega arith in
    let f : a.count - 0 ≡ a.count = omega arith in
    rw (e, f, c.lowest_digits-rest.ensures) (rw (digits_low 10 a.count a.x (omega arith)), mod-lt a.x pos)

pub loop-i-preserved : goal.loop-i-preserved
loop-i-preserved c = let l = c.loop-i in
    let d = c.first_digit-first in
    let n = c.args.count - l.i in
    let at = c.args.start + l.i in
    let some : 0 < n = omega arith in
    let less : c.args.count - (l.i + 1) ≡ n - 1 = omega arith in
    let next : c.args.start + (l.i + 1) ≡ suc at = omega arith in
    rw (less, next) (
      power_turn 10 n l.rest d.result.digit d.result.rest (omega arith) some l.invariant.1 d.ensures.0 d.ensures.1 at l.cells (omega arith) ∙ l.invariant.0,
      rest_below 10 n l.rest d.result.digit d.result.rest (omega arith) some l.invariant.1 d.ensures.0 d.ensures.1,
    )

pub returns : goal.returns
unfolding digits_of
returns c = let l = c.loop-i in
    let z : c.args.count - l.i ≡ 0 = omega arith in
    sym (over_nil l.cells _) ∙ rw z at l.invariant.0
