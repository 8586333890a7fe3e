-- Each return is the case of the definition that the tests on its path choose.
use native.Mathlib.Omega.{arith}
use Rattle.field.proofs.Bounds.{base_le, base_ge}
use Rattle.field.proofs.profile.Cell.digit.Goals as goal

pub overflow_cast-base : goal.overflow_cast-base
overflow_cast-base c = omega (arith, c.base.ensures, base_le c.args.f)

pub overflow_sub-base : goal.overflow_sub-base
overflow_sub-base c = omega (arith, c.base.ensures, base_ge c.args.f)
