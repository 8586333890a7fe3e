-- The number read so far is that of the digits passed, and stays below 2 ^ 64.
use borrow.Author.Rules.{rules}
use native.Mathlib.Omega.{arith}
use Prim.Native.Nat.{ℕ, ◌+◌, ◌-◌, ◌≤◌, ◌<◌}
use mathlib.Core.Path.{◌≡◌, refl, ◌∙◌}
use mathlib.Core.List.{List}
use native.Mathlib.Nat.{pow-zero, zero-add}
use lib.ListN.{length, take, drop, get_or, length-take, length-drop}
use lib.Seq.{take_all}
use mir.Val.{Fits}
use mir.Syntax.{w32}
use Rattle.laws.specs.Digits.{number_from}
use Rattle.laws.proofs.Numerals.{number_turn, number_bound, turn_fits}
use Rattle.field.specs.Cells.{shown_by}
use Rattle.field.proofs.numeral.Numeral.shown_by.Goals as goal

-- the digits that are read
length_part : (s n : ℕ) (a : List ℕ) → s + n ≤ length a → length (take (s + n - s) (drop s a)) ≡ n
length_part s n a h = omega (arith, length-take (s + n - s) (drop s a), length-drop s a)

pub loop-cell-init : goal.loop-cell-init
unfolding number_from
loop-cell-init c = (refl, rw pow-zero (omega arith))

pub overflow_mul-n : goal.overflow_mul-n
overflow_mul-n c = let l = c.loop-cell in
    let a = c.args in
    let w : length a.w.cells ≡ 32 = search rules in
    let some : l.cell-index < a.self.digits = omega (arith, c.loop-cell-test.true, length_part a.self.signs a.self.digits a.w.cells (omega arith)) in
    omega (arith, turn_fits l.n a.self.base 0 l.cell-index a.self.digits l.invariant.1 c.requires.two some c.requires.room (omega arith))

pub overflow_add-n : goal.overflow_add-n
overflow_add-n c = let l = c.loop-cell in
    let a = c.args in
    let w : length a.w.cells ≡ 32 = search rules in
    let some : l.cell-index < a.self.digits = omega (arith, c.loop-cell-test.true, length_part a.self.signs a.self.digits a.w.cells (omega arith)) in
    let d : Fits w32 (get_or (take (a.self.signs + a.self.digits - a.self.signs) (drop a.self.signs a.w.cells)) l.cell-index 0) = search rules in
    omega (arith, turn_fits l.n a.self.base _ l.cell-index a.self.digits l.invariant.1 c.requires.two some c.requires.room d.fits)

pub loop-cell-preserved : goal.loop-cell-preserved
loop-cell-preserved c = let l = c.loop-cell in
    let a = c.args in
    let p = take (a.self.signs + a.self.digits - a.self.signs) (drop a.self.signs a.w.cells) in
    let d : Fits w32 (get_or p l.cell-index 0) = search rules in
    let turn = rw zero-add at (number_turn a.self.base 0 l.cell-index p (omega (arith, c.loop-cell-test.true))) in
    (rw l.invariant.0 turn, number_bound l.n a.self.base (get_or p l.cell-index 0) l.cell-index l.invariant.1 c.requires.two d.fits)

pub returns : goal.returns
unfolding shown_by
returns c = let l = c.loop-cell in
    let a = c.args in
    let e : a.self.signs + a.self.digits - a.self.signs ≡ a.self.digits = omega arith in
    let p = take (a.self.signs + a.self.digits - a.self.signs) (drop a.self.signs a.w.cells) in
    l.invariant.0 ∙ rw (take_all l.cell-index p c.loop-cell-test.false, e)
