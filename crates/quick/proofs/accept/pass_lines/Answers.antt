-- The run, and one component of another kind, as long as the line goes on.
use mathlib.Core.Path.{◌∙◌}
use Rattle.quick.proofs.Positions.{moves_then}
use native.Mathlib.Omega.{arith}
use Rattle.quick.proofs.accept.pass_lines.Goals as goal

pub returns-then-plain : goal.returns-then-plain
returns-then-plain c = (c.if-plain.true, moves_then _ _ c.loop-s.invariant.0.0 c.run-plain.ensures)

pub returns-then-s : goal.returns-then-s
returns-then-s c = (c.if-s.true, moves_then _ _ (moves_then _ _ c.loop-s.invariant.0.0 c.run-plain.ensures) c.in_ok-s.ensures.0)

pub loop-s-smaller : goal.loop-s-smaller
loop-s-smaller c = omega (arith, c.run-plain.ensures.onward, c.in_ok-s.ensures.1)

pub loop-s-preserved : goal.loop-s-preserved
loop-s-preserved c = ((moves_then _ _ (moves_then _ _ c.loop-s.invariant.0.0 c.run-plain.ensures) c.in_ok-s.ensures.0, c.if-s.false), c.take_other.auto.marks ∙ c.run-plain.auto.marks ∙ c.loop-s.invariant.1)
