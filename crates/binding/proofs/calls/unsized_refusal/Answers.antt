-- The shape first, then image and sheet, then that the closed session never fits.
use Rattle.laws.proofs.Cases.{via}
use mathlib.Core.Path.{◌∙◌, ap}
use Rattle.handset.specs.Refusals.{session_refusal}
use Rattle.session.specs.declared.session.Session.{Session}
use Rattle.binding.proofs.Calling.{unsized_shape, unsized_image}
use Rattle.binding.proofs.calls.unsized_refusal.Goals as goal

pub returns-then-not-shape_fits : goal.returns-then-not-shape_fits
returns-then-not-shape_fits c = rw c.number.ensures (unsized_shape c.args.image.now c.args.extent c.args.columns c.args.lines (via c.shape_fits.ensures c.if-not-shape_fits.true))

pub returns : goal.returns
returns c = unsized_image c.args.image.now c.args.extent c.args.columns c.args.lines _ (via c.shape_fits.ensures c.if-not-shape_fits.false) (c.number_in.ensures ∙ c.check_sitting.ensures ∙ ap (λ (s : Session). session_refusal c.args.image.now c.args.extent s) c.closed.ensures)
