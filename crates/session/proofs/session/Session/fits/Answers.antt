-- Each return is the case of the definition that the tests on its path choose.
use Rattle.cmf.proofs.Finding.{found_none, found_at}
use mathlib.Core.Path.{◌∙◌}
use Rattle.laws.proofs.Cases.{via}
use Rattle.session.specs.Fits.{tables_fit, mode_fits}
use Rattle.session.proofs.Stepping.{fits_shape, fits_tables, fits_mode}
use Rattle.session.proofs.session.Session.fits.Goals as goal

pub returns-then-not-shape_fits : goal.returns-then-not-shape_fits
returns-then-not-shape_fits c = fits_shape _ c.args.self (via c.shape_fits.ensures c.if-not-shape_fits.true)

pub returns-in_default : goal.returns-in_default
unfolding tables_fit
returns-in_default c = fits_tables _ c.args.self (via c.shape_fits.ensures c.if-not-shape_fits.false) (found_none _ c.shown_line-line.ensures c.in_default.is)

pub returns-in-Browsing : goal.returns-in-Browsing
unfolding tables_fit mode_fits
returns-in-Browsing c = fits_mode _ c.args.self (via c.shape_fits.ensures c.if-not-shape_fits.false) (found_at _ c.shown_line-line.ensures c.in-Some.is).0 (rw c.in-Browsing.is)

pub returns-in-Visit : goal.returns-in-Visit
unfolding tables_fit mode_fits
returns-in-Visit c = fits_mode _ c.args.self (via c.shape_fits.ensures c.if-not-shape_fits.false) (found_at _ c.shown_line-line.ensures c.in-Some.is).0 (c.visit_fits.ensures ∙ rw ((found_at _ c.shown_line-line.ensures c.in-Some.is).1, c.in-Visit.is))

pub returns-in-Password : goal.returns-in-Password
unfolding tables_fit mode_fits
returns-in-Password c = fits_mode _ c.args.self (via c.shape_fits.ensures c.if-not-shape_fits.false) (found_at _ c.shown_line-line.ensures c.in-Some.is).0 (c.entry_fits.ensures ∙ rw ((found_at _ c.shown_line-line.ensures c.in-Some.is).1, c.in-Password.is))
