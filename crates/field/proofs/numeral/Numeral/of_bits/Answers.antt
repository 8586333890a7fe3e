-- The bits are so few that the shift makes their power of 2.
use native.Mathlib.Omega.{arith}
use Rattle.field.proofs.Bounds.{bits_le, power_pos, shifted}
use Rattle.field.proofs.numeral.Numeral.of_bits.Goals as goal

pub overflow_shl-result : goal.overflow_shl-result
overflow_shl-result c = omega (arith, c.bits_in-digits.ensures, bits_le c.args.n)

pub overflow_sub-result : goal.overflow_sub-result
overflow_sub-result c = rw (c.bits_in-digits.ensures, shifted _ (bits_le c.args.n)) (power_pos c.args.n)

pub returns : goal.returns
returns c = simp (c.bits_in-digits.ensures, shifted _ (bits_le c.args.n))
