-- The invariant: the numbers left to read, put after those read, give the whole.
use Prim.Native.Nat.{◌+◌, ◌*◌}
use mathlib.Core.Path.{refl, sym, ◌∙◌}
use native.Mathlib.Omega.{arith}
use lib.ListN.{length-set}
use Rattle.session_bytes.proofs.Numbers.{from_begun, from_turn, from_done}
use Rattle.session_bytes.proofs.read.cells.Goals as goal

pub loop-i-init : goal.loop-i-init
loop-i-init c = (from_begun 4 32 c.args.bytes.now _ 94 refl, refl)

pub loop-i-preserved : goal.loop-i-preserved
loop-i-preserved c = (from_turn 4 32 c.args.bytes.now c.loop-i.cell-items c.loop-i.i (94 + 4 * c.loop-i.i) (94 + 4 * (c.loop-i.i + 1)) c.cell_at.result c.loop-i-test.true (omega arith) (omega arith) c.cell_at.ensures ∙ c.loop-i.invariant.0, length-set c.loop-i.cell-items c.loop-i.i c.cell_at.result ∙ c.loop-i.invariant.1)

pub returns : goal.returns
returns c = sym (from_done 4 32 c.args.bytes.now c.loop-i.cell-items c.loop-i.i (94 + 4 * c.loop-i.i) c.loop-i-test.false) ∙ c.loop-i.invariant.0
