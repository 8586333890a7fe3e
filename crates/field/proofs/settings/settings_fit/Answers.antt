-- Each return is the case of the definition that the tests on its path choose.
use Rattle.laws.specs.Choice.{◌and◌}
use Rattle.field.specs.Settings.{settings_fit}
use Rattle.field.proofs.settings.settings_fit.Goals as goal

pub returns-then-kind_fits : goal.returns-then-kind_fits
unfolding settings_fit ◌and◌
returns-then-kind_fits c = simp (c.in_range.ensures, c.number.ensures, ← c.kind_fits.ensures, c.if-kind_fits.true)

pub returns-else-kind_fits : goal.returns-else-kind_fits
unfolding settings_fit ◌and◌
returns-else-kind_fits c = simp (← c.kind_fits.ensures, c.if-kind_fits.false)
