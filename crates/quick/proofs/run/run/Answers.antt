-- Position by position; the tally goes onward.
use mathlib.Core.Path.{refl, ◌∙◌}
use mathlib.Core.Bool.{true}
use Rattle.acceptance.proofs.CameTo.{clash}
use Rattle.quick.proofs.Positions.{moves_then, part_moves, part_onward, next_moves}
use native.Mathlib.Omega.{arith}
use Rattle.quick.proofs.run.run.Goals as goal

pub returns-in_default : goal.returns-in_default
returns-in_default c = rw c.in_default.ensures c.loop-s.invariant.0.0

pub returns-in_default-next_plain : goal.returns-in_default-next_plain
returns-in_default-next_plain c = moves_then _ _ c.loop-s.invariant.0.0 (part_moves _ _ _ c.loop-s.invariant.0.1 c.loop-s.invariant.0.0.inside (c.is_padded_to_even.ensures.aligned c.if-not-is_padded_to_even.false) c.in-Some.ensures true (λ e. clash refl e) (λ _. c.if-tag-eq1.true))

pub loop-s-smaller-then-tag-eq1 : goal.loop-s-smaller-then-tag-eq1
loop-s-smaller-then-tag-eq1 c = omega (arith, part_onward _ _ c.loop-s.s c.loop-s.invariant.0.1 c.loop-s.invariant.0.0.inside (c.is_padded_to_even.ensures.aligned c.if-not-is_padded_to_even.false) c.in-Some.ensures, (next_moves _ c.args.extent c.loop-s.marks c.in-Some-next_plain.ensures.0 c.in-Some-next_plain.ensures.1).onward)

pub loop-s-preserved-then-tag-eq1 : goal.loop-s-preserved-then-tag-eq1
loop-s-preserved-then-tag-eq1 c = ((moves_then _ _ (moves_then _ _ c.loop-s.invariant.0.0 (part_moves _ _ _ c.loop-s.invariant.0.1 c.loop-s.invariant.0.0.inside (c.is_padded_to_even.ensures.aligned c.if-not-is_padded_to_even.false) c.in-Some.ensures true (λ e. clash refl e) (λ _. c.if-tag-eq1.true))) (next_moves _ _ _ c.in-Some-next_plain.ensures.0 c.in-Some-next_plain.ensures.1), c.in-Some-next_plain.ensures.0), c.take_plain.auto.marks ∙ c.loop-s.invariant.1)

pub loop-s-smaller : goal.loop-s-smaller
loop-s-smaller c = omega (arith, part_onward _ _ c.loop-s.s c.loop-s.invariant.0.1 c.loop-s.invariant.0.0.inside (c.is_padded_to_even.ensures.aligned c.if-not-is_padded_to_even.false) c.in-Some.ensures)

pub loop-s-preserved : goal.loop-s-preserved
loop-s-preserved c = ((moves_then _ _ c.loop-s.invariant.0.0 (part_moves _ _ _ c.loop-s.invariant.0.1 c.loop-s.invariant.0.0.inside (c.is_padded_to_even.ensures.aligned c.if-not-is_padded_to_even.false) c.in-Some.ensures _ (λ _. omega (arith, c.if-tag-eq1.false)) (λ e. clash e c.loop-s.invariant.0.1)), c.loop-s.invariant.0.1), c.take_plain.auto.marks ∙ c.loop-s.invariant.1)

pub returns : goal.returns
returns c = c.loop-s.invariant.0.0
