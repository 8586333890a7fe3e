-- The invariant: the digits left to write, written, give the whole.
use Prim.Native.Nat.{◌+◌}
use mathlib.Core.Path.{refl, sym, ◌∙◌}
use native.Mathlib.Omega.{arith}
use lib.ListN.{get_or}
use Rattle.session_bytes.proofs.Sized.{byte_fits}
use Rattle.session_bytes.proofs.Numbers.{one_low, numbers_turn, numbers_done}
use Rattle.session_bytes.proofs.write.write_typed.Goals as goal

pub loop-i-init : goal.loop-i-init
loop-i-init c = refl

pub loop-i-preserved : goal.loop-i-preserved
loop-i-preserved c = let x = get_or c.args.digits c.loop-i.i 0 in let e = one_low x (byte_fits c.args.digits _ c.well_formed.1.0.1.1 c.loop-i.i) in numbers_turn 1 c.args.digits c.loop-i.bytes c.loop-i.i (222 + c.loop-i.i) _ (222 + (c.loop-i.i + 1)) (omega arith) (omega arith) (rw (← e) c.write_byte.ensures) ∙ c.loop-i.invariant

pub returns : goal.returns
returns c = sym (numbers_done 1 c.args.digits c.loop-i.bytes c.loop-i.i (222 + c.loop-i.i) (omega arith)) ∙ c.loop-i.invariant
