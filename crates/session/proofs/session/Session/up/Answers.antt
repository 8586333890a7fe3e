-- Each return is the case of the definition that the tests on its path choose.
use mathlib.Core.Path.{sym, ◌∙◌}
use Rattle.laws.proofs.Cases.{if_eq, if_ne}
use Rattle.session.specs.Browsing.{up_step}
use Rattle.session.proofs.session.Session.up.Goals as goal

pub returns-then-cursor-eq0 : goal.returns-then-cursor-eq0
unfolding up_step
returns-then-cursor-eq0 c = c.flash.ensures ∙ sym (if_eq _ 0 _ _ c.if-cursor-eq0.true)

pub returns : goal.returns
unfolding up_step
returns c = c.taken.ensures ∙ rw c.cursor_on.ensures (sym (if_ne _ 0 _ _ c.if-cursor-eq0.false))
