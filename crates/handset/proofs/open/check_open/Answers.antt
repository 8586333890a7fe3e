-- The shape comes first.
use mathlib.Core.Path.{sym}
use Rattle.laws.proofs.Cases.{via}
use Rattle.handset.proofs.Opening.{shapeless, shaped}
use Rattle.handset.proofs.open.check_open.Goals as goal

pub returns-then-not-shape_fits : goal.returns-then-not-shape_fits
returns-then-not-shape_fits c = sym (shapeless c.args.image.now c.args.columns c.args.lines c.args.extent (via c.shape_fits.ensures c.if-not-shape_fits.true))

pub returns : goal.returns
returns c = sym (shaped c.args.image.now c.args.columns c.args.lines c.args.extent _ (via c.shape_fits.ensures c.if-not-shape_fits.false) c.check_image.ensures)
