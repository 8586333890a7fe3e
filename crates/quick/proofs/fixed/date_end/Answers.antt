-- The tests are those of the parts.
use mathlib.Core.Path.{refl}
use native.Mathlib.Omega.{arith}
use Rattle.quick.proofs.FixedFields.{date_is}
use Rattle.quick.proofs.fixed.date_end.Goals as goal
use Rattle.quick.proofs.fixed.date_end.Goals.{then-size-eq4, else-size-eq4}

pub returns : goal.returns
returns c = date_is _ _ _ (omega arith) c.requires.sizes refl
    (λ z. elim c.if-size-eq4.branch [ then-size-eq4 w ↦ (c.number_in-year.ensures.word (omega arith), omega (arith, w.last-is)) | else-size-eq4 w ↦ absurd (w.if-size-eq4.false z) ])
    (λ z. elim c.if-size-eq4.branch [ then-size-eq4 w ↦ absurd (omega (arith, w.if-size-eq4.true)) | else-size-eq4 w ↦ (c.number_in-year.ensures.byte (omega arith), omega (arith, w.last-is)) ])
    (c.date_fits.ensures c.if-not-date_fits.false)
