-- The default is one byte, and the items are counted from 0.
use Rattle.cmf.proofs.Shortcuts.{option_fits}
use Rattle.cmf.proofs.component.option_fits.Goals as goal

pub returns : goal.returns
returns c = option_fits c.args.image.now c.args.at
