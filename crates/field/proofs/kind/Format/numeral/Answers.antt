-- What the callees ensure, put together.
use native.Mathlib.Omega.{arith}
use Rattle.field.proofs.Bounds.{half_pos, half_le}
use Rattle.field.proofs.kind.Format.numeral.Goals as goal

pub overflow_sub-half : goal.overflow_sub-half
overflow_sub-half c = omega (arith, c.half-half.ensures, half_pos c.args.self)

pub overflow_sub-limit : goal.overflow_sub-limit
overflow_sub-limit c = omega (arith, c.half-half.ensures, c.limit-limit.ensures, half_le c.args.self)

pub returns : goal.returns
returns c = simp (c.half-half.ensures, c.limit-limit.ensures, c.top-top.ensures, c.signs.ensures, c.digits_in.ensures, c.base.ensures, c.min.ensures, c.min-2.ensures)
