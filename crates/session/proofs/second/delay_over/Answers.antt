-- Each return is the case of the definition that the tests on its path choose.
use mathlib.Core.Path.{refl, sym}
use Rattle.laws.proofs.Cases.{if_eq, if_ne}
use Rattle.session.specs.Seconds.{delay_over}
use Rattle.session.proofs.second.delay_over.Goals as goal

pub returns-then-delay-ne0 : goal.returns-then-delay-ne0
unfolding delay_over
returns-then-delay-ne0 c = sym (if_ne _ 0 _ _ c.if-delay-ne0.true)

pub returns-else-delay-ne0 : goal.returns-else-delay-ne0
unfolding delay_over
returns-else-delay-ne0 c = rw c.if-delay-ne0.false (sym (if_eq 0 0 _ _ refl))
