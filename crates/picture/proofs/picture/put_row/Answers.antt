-- Each return writes the case of the definition that the tests on its path choose; a blank row tells no mark.
use mathlib.Core.Path.{sym, ◌∙◌}
use Rattle.laws.proofs.Cases.{if_lt, if_ge}
use Rattle.texts.specs.Texts.{blank}
use Rattle.picture.specs.Rows.{row_at}
use Rattle.texts.proofs.Writing.{all_blank}
use Rattle.picture.proofs.picture.put_row.Goals as goal

pub returns-then-k-count : goal.returns-then-k-count
unfolding row_at
returns-then-k-count c = record { value = c.put_line.ensures.value; row_after = c.put_line.ensures.row_after ∙ sym (if_lt _ _ _ _ c.if-k-count.true) }

pub returns : goal.returns
unfolding row_at
returns c = record { value = tt; row_after = all_blank blank c.args.row.now _ c.pad.ensures ∙ rw c.requires.1 (sym (if_ge _ _ _ _ c.if-k-count.false)) }
