-- Each return is the case of the definition that the tests on its path choose.
use mathlib.Core.Path.{sym, ◌∙◌}
use Rattle.laws.proofs.Cases.{if_lt, if_ge}
use Rattle.texts.specs.Texts.{digit_char}
use Rattle.texts.proofs.text.digit_char.Goals as goal

pub returns-then-d-lt10 : goal.returns-then-d-lt10
unfolding digit_char
returns-then-d-lt10 c = sym (if_lt _ 10 _ _ c.if-d-lt10.true)

pub returns-then-d-lt16 : goal.returns-then-d-lt16
unfolding digit_char
returns-then-d-lt16 c = sym (if_ge _ 10 _ _ c.if-d-lt10.false ∙ if_lt _ 16 _ _ c.if-d-lt16.true)

pub returns-else-d-lt16 : goal.returns-else-d-lt16
unfolding digit_char
returns-else-d-lt16 c = sym (if_ge _ 10 _ _ c.if-d-lt10.false ∙ if_ge _ 16 _ _ c.if-d-lt16.false)
