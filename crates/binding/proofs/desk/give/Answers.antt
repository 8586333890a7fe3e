-- By whether there is room for three.
use mathlib.Core.Path.{sym, ◌∙◌}
use Rattle.laws.proofs.Cases.{if_eq, if_ne}
use Rattle.binding.proofs.Sums.{three_set}
use Rattle.binding.proofs.desk.give.Goals as goal

pub returns-then-sums-eq3 : goal.returns-then-sums-eq3
returns-then-sums-eq3 c = record { value = sym (if_eq _ 3 _ _ c.if-sums-eq3.true); sums_after = three_set c.args.sums.now _ _ _ c.if-sums-eq3.true ∙ sym (if_eq _ 3 _ _ c.if-sums-eq3.true) }

pub returns : goal.returns
returns c = record { value = rw c.number.ensures (sym (if_ne _ 3 _ _ c.if-sums-eq3.false)); sums_after = sym (if_ne _ 3 _ _ c.if-sums-eq3.false) }
