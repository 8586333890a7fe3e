-- A code past the last has the format of the last.
use mathlib.Core.Path.{◌∙◌}
use Rattle.field.proofs.CodeRanges.{up_to_last}
use Rattle.field.proofs.numeral.is_in_code.Goals as goal

pub returns : goal.returns
returns c = c.code_spans.ensures ∙ rw (c.min.ensures, up_to_last)
