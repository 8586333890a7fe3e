-- Each return is the case of the definition that the tests on its path choose.
use mathlib.Core.Bool.{false≢true}
use mathlib.Core.Path.{sym, ◌∙◌}
use Rattle.laws.specs.Choice.{◌and◌}
use Rattle.laws.proofs.Cases.{via}
use Rattle.session.specs.Fits.{visit_fits}
use Rattle.session.proofs.fits.visit_fits.Goals as goal
use Rattle.session.proofs.fits.visit_fits.Goals.{then-c, else-c}

pub returns-then-not-is_on_line : goal.returns-then-not-is_on_line
unfolding visit_fits ◌and◌
returns-then-not-is_on_line c = simp (via c.is_on_line.ensures c.if-not-is_on_line.true)

pub returns-then-c-2 : goal.returns-then-c-2
unfolding visit_fits ◌and◌
returns-then-c-2 c = elim c.if-c.branch [
  | then-c w ↦ simp (via c.is_on_line.ensures c.if-not-is_on_line.false, ← c.read_component-c.ensures, w.if-c.true, via w.value-is c.if-c-2.true, c.work_fits.ensures)
  | else-c w ↦ absurd (false≢true (sym w.if-c.false ∙ via w.value-is c.if-c-2.true))
]

pub returns-else-c-2 : goal.returns-else-c-2
unfolding visit_fits ◌and◌
returns-else-c-2 c = elim c.if-c.branch [
  | then-c w ↦ simp (c.if-c-2.false, via c.is_on_line.ensures c.if-not-is_on_line.false, ← c.read_component-c.ensures, w.if-c.true, via w.value-is c.if-c-2.false)
  | else-c w ↦ simp (c.if-c-2.false, via c.is_on_line.ensures c.if-not-is_on_line.false, ← c.read_component-c.ensures, w.if-c.false)
]
