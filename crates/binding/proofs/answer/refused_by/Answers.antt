-- Each return is the case that the test chooses.
use mathlib.Core.Path.{sym}
use Rattle.laws.proofs.Cases.{if_eq, if_ne}
use Rattle.binding.specs.Answers.{refused_by}
use Rattle.binding.proofs.answer.refused_by.Goals as goal

pub returns-then-refusal-eq0 : goal.returns-then-refusal-eq0
unfolding refused_by
returns-then-refusal-eq0 c = sym (if_eq _ 0 _ _ c.if-refusal-eq0.true)

pub returns : goal.returns
unfolding refused_by
returns c = sym (if_ne _ 0 _ _ c.if-refusal-eq0.false)
