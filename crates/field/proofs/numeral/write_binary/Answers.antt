-- The digits still to write, written onto the cells as they are, give the whole.
use native.Mathlib.Omega.{arith}
use mathlib.Core.Path.{◌≡◌, sym, ◌∙◌}
use Rattle.laws.specs.Digits.{digits_of}
use Rattle.laws.proofs.Overwriting.{over_nil}
use Rattle.laws.proofs.Numerals.{digits_turn}
use Rattle.std.proofs.lemmas.Nat.{and_mask}
use Rattle.field.proofs.Bounds.{shifted_short}
use Rattle.field.proofs.numeral.write_binary.Goals as goal

pub loop-left-preserved : goal.loop-left-preserved
loop-left-preserved g c = let l = c.loop-left in
    rw (shifted_short g.row.BITS c.requires.0, and_mask l.rest g.row.BITS)
    (digits_turn _ _ l.left l.rest l.cells c.loop-left-test.true (omega arith)) ∙ l.invariant

pub returns : goal.returns
unfolding digits_of
returns g c = let l = c.loop-left in
    let z : l.left ≡ 0 = omega arith in
    sym (over_nil l.cells _) ∙ rw z at l.invariant
