-- Each return is the power of the base that the test chooses, less 1; a hexadecimal digit has four bits.
use native.Mathlib.Omega.{arith}
use Prim.Native.Nat.{◌*◌, ◌≤◌, min}
use mathlib.Core.Path.{◌≡◌}
use mathlib.Core.Bool.{true, false}
use native.Mathlib.Nat.{one-le-pow}
use lib.Dec.{lit≤}
use Rattle.laws.specs.Choice.{when◌then◌else◌}
use Rattle.field.specs.Formats.{base_of, top_of}
use Rattle.field.proofs.Bounds.{digits_le, shifted, four_bits}
use Rattle.field.proofs.kind.Format.top.Goals as goal

pub overflow_mul-result : goal.overflow_mul-result
overflow_mul-result c = omega (arith, c.digits_in-digits.ensures, digits_le c.args.self)

pub overflow_shl-result : goal.overflow_shl-result
overflow_shl-result c = omega (arith, c.digits_in-digits.ensures, digits_le c.args.self)

pub overflow_sub-result : goal.overflow_sub-result
overflow_sub-result c = let d = c.digits_in-digits.result in
    let few : 4 * d ≤ 32 = omega (arith, c.digits_in-digits.ensures, digits_le c.args.self) in
    rw (shifted (4 * d) few) (one-le-pow (4 * d) 2 (lit≤ tt))

pub returns-then-self : goal.returns-then-self
unfolding top_of base_of when◌then◌else◌
returns-then-self c = let d = c.digits_in-digits.result in
    let few : 4 * d ≤ 32 = omega (arith, c.digits_in-digits.ensures, digits_le c.args.self) in
    let h : c.args.self.hex ≡ true = c.if-self.true in
    rw (shifted (4 * d) few, four_bits d, c.digits_in-digits.ensures, h)

pub overflow_sub-result-else-self : goal.overflow_sub-result-else-self
overflow_sub-result-else-self c = omega (arith, c.power_of_ten.ensures, one-le-pow (min c.digits_in-digits.result 9) 10 (lit≤ tt))

pub returns-else-self : goal.returns-else-self
unfolding top_of base_of when◌then◌else◌
returns-else-self c = let few : min c.digits_in-digits.result 9 ≡ c.digits_in-digits.result = omega (arith, c.digits_in-digits.ensures, digits_le c.args.self) in
    let h : c.args.self.hex ≡ false = c.if-self.false in
    rw (c.power_of_ten.ensures, few, c.digits_in-digits.ensures, h)
