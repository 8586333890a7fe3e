-- The invariant: the levels left to write, written, give the whole.
use Prim.Native.Nat.{◌+◌, ◌*◌}
use mathlib.Core.Path.{refl, sym, ◌∙◌}
use native.Mathlib.Omega.{arith}
use Rattle.session_bytes.proofs.Layouts.{levels_turn, levels_done}
use Rattle.session_bytes.proofs.write.write_levels.Goals as goal

pub loop-i-init : goal.loop-i-init
loop-i-init c = refl

pub loop-i-preserved : goal.loop-i-preserved
loop-i-preserved c = levels_turn c.args.levels c.loop-i.bytes c.loop-i.i (3 + 10 * c.loop-i.i) _ (3 + 10 * (c.loop-i.i + 1)) (omega arith) (omega arith) c.write_level.ensures ∙ c.loop-i.invariant

pub returns : goal.returns
returns c = sym (levels_done c.args.levels c.loop-i.bytes c.loop-i.i (3 + 10 * c.loop-i.i) (omega arith)) ∙ c.loop-i.invariant
