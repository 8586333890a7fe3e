-- There is a next part where there are parts and a next cell.
use mathlib.Core.Bool.{false≢true}
use mathlib.Core.Path.{sym, ◌∙◌}
use Rattle.laws.proofs.Cases.{and_l}
use Rattle.keys.specs.Keys.{part_after}
use Rattle.keys.proofs.Choosing.{part_is_next}
use Rattle.keys.proofs.press.next_part.Goals as goal

pub returns-then-p : goal.returns-then-p
returns-then-p c = part_is_next c.args.w c.args.p _ c.if-p.true c.next_cell.ensures

pub returns-else-p : goal.returns-else-p
unfolding part_after
returns-else-p c = λ e. false≢true (sym c.if-p.false ∙ and_l _ _ e)
