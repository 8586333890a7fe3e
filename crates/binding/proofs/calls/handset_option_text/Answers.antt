-- Where the text is; all of it is in the image.
use lib.ListN.{length}
use mathlib.Core.Path.{refl}
use native.Mathlib.Omega.{arith}
use Rattle.cmf.proofs.Numbers.{number_positive}
use Rattle.binding.proofs.Calling.{text_near, text_refused, text_given}
use Rattle.binding.proofs.calls.handset_option_text.Goals as goal

pub returns-in-Err : goal.returns-in-Err
returns-in-Err c = rw c.number.ensures (text_refused c.args.image.now (length c.args.sheet.now) c.args.place c.args.item c.in-Err.ensures (λ z. omega (arith, number_positive c.in-Err.refusal, z)))

pub overflow_mul-result : goal.overflow_mul-result
overflow_mul-result c = omega (arith, text_near c.args.image.now (length c.args.sheet.now) c.args.place c.args.item c.in-Ok.ensures refl)

pub overflow_add-result : goal.overflow_add-result
overflow_add-result c = omega (arith, text_near c.args.image.now (length c.args.sheet.now) c.args.place c.args.item c.in-Ok.ensures refl)

pub returns-in-Ok : goal.returns-in-Ok
returns-in-Ok c = text_given c.args.image.now (length c.args.sheet.now) c.args.place c.args.item c.in-Ok.ensures refl
