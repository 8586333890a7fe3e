-- The invariant: the numbers left to read, put after those read, give the whole.
use Prim.Native.Nat.{◌+◌}
use mathlib.Core.Path.{refl, sym, ◌∙◌}
use native.Mathlib.Omega.{arith}
use lib.ListN.{get_or, length-set}
use Rattle.session_bytes.proofs.Numbers.{one_read, from_begun, from_turn, from_done}
use Rattle.session_bytes.proofs.read.typed.Goals as goal

pub loop-i-init : goal.loop-i-init
loop-i-init c = (from_begun 1 8 c.args.bytes.now _ 222 refl, refl)

pub loop-i-preserved : goal.loop-i-preserved
loop-i-preserved c = let x = get_or c.args.bytes.now (222 + c.loop-i.i) 0 in (from_turn 1 8 c.args.bytes.now c.loop-i.digit-items c.loop-i.i (222 + c.loop-i.i) (222 + (c.loop-i.i + 1)) x c.loop-i-test.true (omega arith) (omega arith) (one_read _ _) ∙ c.loop-i.invariant.0, length-set c.loop-i.digit-items c.loop-i.i x ∙ c.loop-i.invariant.1)

pub returns : goal.returns
returns c = sym (from_done 1 8 c.args.bytes.now c.loop-i.digit-items c.loop-i.i (222 + c.loop-i.i) c.loop-i-test.false) ∙ c.loop-i.invariant.0
