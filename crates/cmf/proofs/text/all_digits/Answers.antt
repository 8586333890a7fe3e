-- The loop: the bytes that are left are digits if all are.
use native.Mathlib.Omega.{arith}
use Prim.Native.Nat.{◌+◌, ◌-◌}
use mathlib.Core.Bool.{false}
use mathlib.Core.Logic.{inl, inr}
use mathlib.Core.Path.{◌≡◌, sym, ◌∙◌}
use Rattle.cmf.specs.Readers.{all_digits}
use Rattle.cmf.proofs.Turning.{digits_turn, digits_low, digits_high}
use Rattle.cmf.proofs.text.all_digits.Goals as goal

pub loop-k-preserved : goal.loop-k-preserved
loop-k-preserved c =
    let a = c.args in
    let left = a.at + a.count - c.loop-k.k in
    let z : a.at + a.count - (c.loop-k.k + 1) ≡ left - 1 = omega arith in
    let is = c.if-not-is_ascii_digit.ensures.cases in
    rw z (digits_turn a.image.now left c.loop-k.k (omega arith) (omega (arith, c.byte_at.ensures, is)) (omega (arith, c.byte_at.ensures, is)) ∙ c.loop-k.invariant)

pub returns-then-not-is_ascii_digit : goal.returns-then-not-is_ascii_digit
returns-then-not-is_ascii_digit c =
    let a = c.args in
    let left = a.at + a.count - c.loop-k.k in
    let other : all_digits a.image.now left c.loop-k.k ≡ false =
    elim c.if-not-is_ascii_digit.ensures.cases [
      | inl low ↦ digits_low a.image.now left c.loop-k.k (omega arith) (omega (arith, c.byte_at.ensures, low))
      | inr high ↦ digits_high a.image.now left c.loop-k.k (omega arith) (omega (arith, c.byte_at.ensures, high)) (omega (arith, c.byte_at.ensures, high))
    ] in
    sym other ∙ c.loop-k.invariant

pub returns : goal.returns
unfolding all_digits
returns c =
    let a = c.args in
    let left : a.at + a.count - c.loop-k.k ≡ 0 = omega arith in rw left at c.loop-k.invariant
