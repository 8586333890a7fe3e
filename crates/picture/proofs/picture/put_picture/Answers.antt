-- The picture is written, or nothing is: the cases of the definition.
use mathlib.Core.Path.{◌∙◌}
use Rattle.laws.proofs.Cases.{via}
use Rattle.picture.proofs.Filling.{no_shape, no_size, is_filled}
use Rattle.picture.proofs.picture.put_picture.Goals as goal

pub returns-then-not-shape_fits : goal.returns-then-not-shape_fits
returns-then-not-shape_fits c = no_shape c.args.image.now c.args.sheet.now c.args.session c.args.picture.now (via c.shape_fits.ensures c.if-not-shape_fits.true)

pub returns-then-picture-session : goal.returns-then-picture-session
returns-then-picture-session c = no_size c.args.image.now c.args.sheet.now c.args.session c.args.picture.now c.if-picture-session.true

pub returns : goal.returns
returns c = c.write_picture.ensures ∙ is_filled c.args.image.now c.args.sheet.now c.args.session c.args.picture.now (via c.shape_fits.ensures c.if-not-shape_fits.false) c.if-picture-session.false
