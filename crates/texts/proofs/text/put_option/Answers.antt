-- An item, or '#'.
use mathlib.Core.Path.{sym}
use Rattle.laws.proofs.Cases.{if_le, if_gt}
use Rattle.texts.proofs.Writing.{same}
use Rattle.texts.proofs.text.put_option.Goals as goal

pub returns-then-x-saturating_sub : goal.returns-then-x-saturating_sub
returns-then-x-saturating_sub c = same (sym (if_le _ _ _ _ (rw c.saturating_sub.ensures at c.if-x-saturating_sub.true))) c.put_item.ensures

pub returns : goal.returns
returns c = same (sym (if_gt _ _ _ _ (rw c.saturating_sub.ensures at c.if-x-saturating_sub.false))) c.repeat.ensures
