-- The first even place is the place itself or the next one, after the byte that is looked at.
use mathlib.Core.Path.{sym, ◌∙◌}
use borrow.Author.Tests.{eq-eqb}
use native.Mathlib.Omega.{arith}
use Rattle.laws.proofs.Cases.{if_eq, if_ne}
use Rattle.cmf.specs.Readers.{even_from}
use Rattle.acceptance.specs.Check.{padded}
use Rattle.quick.proofs.components.is_padded_to_even.Goals as goal

pub returns-then-at-eq0-clause-value : goal.returns-then-at-eq0-clause-value
unfolding padded
returns-then-at-eq0-clause-value c = eq-eqb _ _ c.if-at-eq0.true ∙ sym (if_eq c.args.at (even_from c.args.at) _ _ (omega (arith, c.if-at-eq0.true)))

pub returns-else-at-eq0-clause-value : goal.returns-else-at-eq0-clause-value
unfolding padded
returns-else-at-eq0-clause-value c = sym (if_ne c.args.at (even_from c.args.at) _ _ (λ e. c.if-at-eq0.false (omega arith)))
