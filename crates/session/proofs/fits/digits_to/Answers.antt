-- The digits up to here are digits.
use native.Mathlib.Omega.{arith}
use mathlib.Core.Path.{◌≡◌, refl, sym}
use Rattle.session.specs.Fits.{digits_to}
use Rattle.session.proofs.Stepping.{digits_next, digits_bad}
use Rattle.session.proofs.fits.digits_to.Goals as goal

pub loop-i-init : goal.loop-i-init
unfolding digits_to
loop-i-init c = refl

pub returns-then-byte_at-gt-LAST_DIGIT : goal.returns-then-byte_at-gt-LAST_DIGIT
returns-then-byte_at-gt-LAST_DIGIT c = sym (digits_bad c.args.typed c.loop-i.i c.args.n c.loop-i-test.true (omega (arith, c.byte_at.ensures, c.if-byte_at-gt-LAST_DIGIT.true)))

pub loop-i-preserved : goal.loop-i-preserved
loop-i-preserved c = digits_next c.args.typed c.loop-i.i c.loop-i.invariant (omega (arith, c.byte_at.ensures, c.if-byte_at-gt-LAST_DIGIT.false))

pub returns : goal.returns
returns c = let z : c.loop-i.i ≡ c.args.n = omega arith in rw (← z) (sym c.loop-i.invariant)
