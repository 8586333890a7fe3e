-- What is left of the texts makes the whole.
use mathlib.Core.Path.{refl}
use Rattle.quick.proofs.Pieces.{filling_first, filling_next, filled}
use native.Mathlib.Omega.{arith}
use Rattle.quick.proofs.texts.longest_of.Goals as goal

pub loop-init : goal.loop-init
loop-init c = filling_first _ _ _ _ c.requires.1

pub loop-preserved : goal.loop-preserved
loop-preserved c = filling_next c.args.image.now c.args.from c.args.end c.args.count c.loop.at c.loop.counter c.loop.most c.max-most.result _ (omega arith) c.requires.1 c.max-most.ensures c.loop.invariant

pub returns : goal.returns
returns c = filled _ _ _ _ _ _ _ _ (omega arith) (omega arith) refl c.loop.invariant
