-- Each return is the case that the test chooses.
use mathlib.Core.Path.{sym, ◌∙◌}
use Rattle.laws.proofs.Cases.{if_eq, if_ne}
use Rattle.session_bytes.specs.Layout.{session_from}
use Rattle.session_bytes.proofs.read.read_session.Goals as goal

pub returns-in-Some : goal.returns-in-Some
unfolding session_from
returns-in-Some c = rw c.in-Some.ensures.cases.same at c.session_in.ensures ∙ sym (if_eq _ 230 _ _ c.in-Some.ensures.cases.long)

pub returns-in-None : goal.returns-in-None
unfolding session_from
returns-in-None c = c.closed.ensures ∙ sym (if_ne _ 230 _ _ c.in-None.ensures.cases)
