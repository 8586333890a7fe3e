-- The cells are the sign, where there is one, and the digits written after it.
use native.Mathlib.Omega.{arith}
use mathlib.Core.Path.{◌≡◌, ◌∙◌}
use mathlib.Core.List.{[], ◌∷◌}
use borrow.Author.Tests.{eq-eqb, ne_eqb}
use Rattle.laws.specs.Choice.{when◌then◌else◌, ◌=?◌}
use Rattle.laws.specs.Overwrite.{fit}
use Rattle.field.specs.Cells.{in_digits, sign_of, work_of}
use Rattle.field.proofs.Bounds.{distance_small}
use Rattle.field.proofs.Padded.{after_sign}
use Rattle.field.proofs.numeral.Numeral.in_digits.Goals as goal
use Rattle.field.proofs.numeral.Numeral.in_digits.Goals.{then-self-ne0, else-self-ne0}

pub overflow_cast-size : goal.overflow_cast-size
overflow_cast-size c = omega (arith, c.distance-size.ensures, distance_small c.requires.sound c.args.x)

pub slice_bounds-write_digits-end : goal.slice_bounds-write_digits-end
slice_bounds-write_digits-end c = elim c.if-self-ne0.branch [ then-self-ne0 w ↦ rw w.cells-is | else-self-ne0 w ↦ rw w.cells-is ]

pub write_digits-requires : goal.write_digits-requires
write_digits-requires c = let s = c.requires.sound in
    (c.requires.based.bases, elim c.if-self-ne0.branch [ then-self-ne0 w ↦ rw w.cells-is s.cells | else-self-ne0 w ↦ rw w.cells-is s.cells ])

pub returns : goal.returns
unfolding in_digits work_of fit when◌then◌else◌
returns c = let a = c.args in
    let begun : c.if-self-ne0.cells ≡ fit 0 32 (when a.self.signs =? 0 then [] else sign_of a.self a.x ∷ []) =
    elim c.if-self-ne0.branch [
      | then-self-ne0 w ↦ w.cells-is ∙ rw (ne_eqb a.self.signs 0 w.if-self-ne0.true, w.sign.ensures)
      | else-self-ne0 w ↦ w.cells-is ∙ rw (eq-eqb a.self.signs 0 w.if-self-ne0.false)
    ] in
    let written = rw (begun, c.distance-size.ensures) at c.write_digits.ensures in
    λ j. record { cells = (written ∙ after_sign a.self.signs (sign_of a.self a.x) _ c.requires.sound.signs) j; at = 0 }
