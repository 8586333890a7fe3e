-- Each return is the case of the definition that the tests on its path choose.
use mathlib.Core.Path.{sym, ◌∙◌}
use Rattle.laws.proofs.Cases.{if_lt, if_ge}
use Rattle.session.specs.Browsing.{descended}
use Rattle.session.proofs.session.Session.descend.Goals as goal

pub returns-then-at-lt-MAX_DEPTH : goal.returns-then-at-lt-MAX_DEPTH
unfolding descended
returns-then-at-lt-MAX_DEPTH c = c.taken.ensures ∙ sym (if_lt _ _ _ _ c.if-at-lt-MAX_DEPTH.true)

pub returns : goal.returns
unfolding descended
returns c = c.flash.ensures ∙ sym (if_ge _ _ _ _ c.if-at-lt-MAX_DEPTH.false)
