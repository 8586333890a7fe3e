-- Each return is the case of the definition that the tests on its path choose.
use mathlib.Core.Path.{sym}
use Rattle.laws.proofs.Cases.{if_eq, if_ne}
use Rattle.texts.specs.Texts.{sign_char}
use Rattle.texts.proofs.text.sign_char.Goals as goal

pub returns-then-c-eq0 : goal.returns-then-c-eq0
unfolding sign_char
returns-then-c-eq0 c = sym (if_eq _ 0 _ _ c.if-c-eq0.true)

pub returns-else-c-eq0 : goal.returns-else-c-eq0
unfolding sign_char
returns-else-c-eq0 c = sym (if_ne _ 0 _ _ c.if-c-eq0.false)
