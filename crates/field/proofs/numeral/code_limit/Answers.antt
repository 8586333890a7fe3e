-- The limit is that of the table of codes.
use mathlib.Core.Path.{sym, ◌∙◌}
use Rattle.laws.proofs.Cases.{if_lt, if_ge}
use Rattle.field.proofs.CodeRanges.{limit_at}
use Rattle.field.proofs.numeral.code_limit.Goals as goal

pub returns-then-code-lt5 : goal.returns-then-code-lt5
returns-then-code-lt5 c = sym (limit_at c.args.code c.requires ∙ if_lt c.args.code 5 _ _ c.if-code-lt5.true)

pub returns-else-code-lt5 : goal.returns-else-code-lt5
returns-else-code-lt5 c = sym (limit_at c.args.code c.requires ∙ if_ge c.args.code 5 _ _ c.if-code-lt5.false)
