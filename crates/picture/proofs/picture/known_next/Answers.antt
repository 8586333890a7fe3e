-- Each return is the case of the definition that the tests on its path choose.
use mathlib.Core.Path.{sym, ◌∙◌}
use Rattle.laws.proofs.Cases.{if_le, if_gt, if_lt, if_ge, if_true, if_false}
use Rattle.picture.proofs.picture.known_next.Goals as goal
use Rattle.picture.proofs.picture.known_next.Goals.{then-count-k-via-then-count-k, then-count-k-via-else-count-k+then-last, then-count-k-via-else-count-k+else-last+then-count-gt-MAX_TABLE_LINES}

pub returns-then-count-k : goal.returns-then-count-k
returns-then-count-k c = elim c.then-count-k.branch [
  | then-count-k-via-then-count-k w ↦ sym (if_le _ _ _ _ w.if-count-k.true)
  | then-count-k-via-else-count-k+then-last w ↦ sym (if_gt _ _ _ _ w.if-count-k.false ∙ if_true _ _ w.if-last.true)
  | then-count-k-via-else-count-k+else-last+then-count-gt-MAX_TABLE_LINES w ↦ sym (if_gt _ _ _ _ w.if-count-k.false ∙ if_false _ _ w.if-last.false ∙ if_lt _ _ _ _ w.if-count-gt-MAX_TABLE_LINES.true)
]

pub returns : goal.returns
returns c = sym (if_gt _ _ _ _ c.if-count-k.false ∙ if_false _ _ c.if-last.false ∙ if_ge _ _ _ _ c.if-count-gt-MAX_TABLE_LINES.false)
