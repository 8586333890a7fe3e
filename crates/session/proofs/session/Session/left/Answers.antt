-- Each return is the case of the definition that the tests on its path choose.
use mathlib.Core.Path.{sym, ◌∙◌}
use Rattle.laws.proofs.Cases.{if_eq, if_ne}
use Rattle.session.specs.Browsing.{left_step}
use Rattle.session.proofs.session.Session.left.Goals as goal

pub returns-then-self-eq0 : goal.returns-then-self-eq0
unfolding left_step
returns-then-self-eq0 c = c.flash.ensures ∙ sym (if_eq _ 0 _ _ c.if-self-eq0.true)

pub returns : goal.returns
unfolding left_step
returns c = rw (← c.above_at-self.ensures) (c.taken.ensures ∙ sym (if_ne _ 0 _ _ c.if-self-eq0.false))
