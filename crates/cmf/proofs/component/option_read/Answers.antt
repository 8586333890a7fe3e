-- What the callees ensure, put together.
use Rattle.laws.specs.Choice.{when◌then◌else◌}
use Rattle.cmf.proofs.component.option_read.Goals as goal

pub returns : goal.returns
unfolding when◌then◌else◌
returns c = simp (c.option_field.ensures, c.setting_refusal.ensures, c.option_fits.ensures)
