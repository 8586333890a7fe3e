-- The refusal is given where the picture has another length than the display.
use native.Mathlib.Omega.{arith}
use Rattle.picture.proofs.Filling.{area}
use Rattle.handset.proofs.draw.check_picture.Goals as goal

pub overflow_mul-columns : goal.overflow_mul-columns
overflow_mul-columns c = omega (arith, area c.args.columns c.args.lines (omega arith) (omega arith))
