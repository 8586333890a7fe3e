-- Without doubt nothing is refused; in doubt the check proper answers.
use mathlib.Core.Path.{sym, ap, ◌∙◌}
use Rattle.cmf.specs.Refusals.{refusal_number}
use Rattle.acceptance.specs.Check.{refusal_of}
use Rattle.acceptance.specs.declared.progress.Progress.{Progress}
use Rattle.handset.proofs.refusal.check_image.Goals as goal

pub returns-then-is_accepted : goal.returns-then-is_accepted
returns-then-is_accepted c = sym (c.is_accepted.ensures c.if-is_accepted.true)

pub returns-in-None : goal.returns-in-None
unfolding refusal_of
returns-in-None c = sym (ap refusal_number c.in-None.is) ∙ ap (λ (w : Progress). refusal_number w.refusal) c.check.ensures.progress_value

pub returns-in-Some : goal.returns-in-Some
unfolding refusal_of
returns-in-Some c = sym (ap refusal_number c.in-Some.is) ∙ ap (λ (w : Progress). refusal_number w.refusal) c.check.ensures.progress_value
