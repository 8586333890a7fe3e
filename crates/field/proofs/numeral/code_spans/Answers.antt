-- Each return is one of the three ways to settle whether the number is in the range of its code.
use Rattle.field.proofs.Bounds.{format_sound}
use native.Mathlib.Omega.{arith}
use mathlib.Core.Path.{◌∙◌}
use borrow.Author.Tests.{le-leb, lt-leb}
use Rattle.field.specs.Formats.{format_of}
use Rattle.field.proofs.CodeRanges.{below_at, spans_near, spans_far, spans_between}
use Rattle.field.proofs.numeral.code_spans.Goals as goal

pub returns-then-x-code : goal.returns-then-x-code
returns-then-x-code c = le-leb _ _ c.if-x-code.true ∙ spans_near _ _ c.requires c.if-x-code.true

pub overflow_sub-limit : goal.overflow_sub-limit
overflow_sub-limit c = omega (arith, c.code_limit-limit.ensures, below_at c.args.code c.requires, (format_sound (format_of c.args.code)).apart)

pub returns-then-limit-code : goal.returns-then-limit-code
returns-then-limit-code c = spans_far _ _ c.requires _ c.code_limit-limit.ensures c.if-x-code.false c.if-limit-code.true

pub returns-else-limit-code : goal.returns-else-limit-code
returns-else-limit-code c = lt-leb _ _ c.if-limit-code.false ∙ spans_between _ _ c.requires _ c.code_limit-limit.ensures c.if-x-code.false c.if-limit-code.false
