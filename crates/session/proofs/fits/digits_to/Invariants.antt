-- The digits up to here are digits.
use mathlib.Core.Path.{◌≡◌}
use mathlib.Core.Bool.{true}
use Rattle.session.specs.Fits.{digits_to}
use Rattle.session.proofs.fits.digits_to.Given as goal

abbrev pub invariant-loop-i : goal.invariant-loop-i
invariant-loop-i l = digits_to l.typed l.i ≡ true
