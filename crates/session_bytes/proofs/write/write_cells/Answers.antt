-- The invariant: the cells left to write, written, give the whole.
use Prim.Native.Nat.{◌+◌, ◌*◌}
use mathlib.Core.Path.{refl, sym, ◌∙◌}
use native.Mathlib.Omega.{arith}
use Rattle.session_bytes.proofs.Numbers.{numbers_turn, numbers_done}
use Rattle.session_bytes.proofs.write.write_cells.Goals as goal

pub loop-i-init : goal.loop-i-init
loop-i-init c = refl

pub loop-i-preserved : goal.loop-i-preserved
loop-i-preserved c = numbers_turn 4 c.args.cells c.loop-i.bytes c.loop-i.i (94 + 4 * c.loop-i.i) _ (94 + 4 * (c.loop-i.i + 1)) (omega arith) (omega arith) c.write_cell.ensures ∙ c.loop-i.invariant

pub returns : goal.returns
returns c = sym (numbers_done 4 c.args.cells c.loop-i.bytes c.loop-i.i (94 + 4 * c.loop-i.i) (omega arith)) ∙ c.loop-i.invariant
