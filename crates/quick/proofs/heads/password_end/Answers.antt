-- A text of digits.
use mathlib.Core.Path.{refl}
use Rattle.laws.proofs.Cases.{via}
use Rattle.cmf.proofs.Heads.{fit_digits}
use native.Mathlib.Omega.{arith}
use Rattle.quick.proofs.heads.password_end.Goals as goal

pub returns : goal.returns
returns c = (record { ends = refl; inside = omega arith }, fit_digits _ _ (via c.password_fits.ensures c.if-not-password_fits.false))
