-- Each return is the case of the definition that the tests on its path choose.
use Rattle.laws.specs.Choice.{when◌then◌else◌}
use native.Mathlib.Omega.{arith}
use native.Mathlib.Nat.{mod-eq_of_lt, mod_self}
use mathlib.Core.Path.{◌≡◌}
use Prim.Native.Nat.{◌-◌, ◌<◌}
use Rattle.laws.proofs.Cases.{by_test}
use Rattle.field.specs.Cells.{of_digits, minus}
use Rattle.field.proofs.numeral.Numeral.of_digits.Goals as goal
use Rattle.field.proofs.numeral.Numeral.of_digits.Goals.{else-m-ne0-via-then-m-ne0+else-minus, else-m-ne0-via-else-m-ne0}

pub returns-then-minus : goal.returns-then-minus
unfolding of_digits when◌then◌else◌
returns-then-minus c = let n = c.args.self.limit in
    let m = c.shown_by-m.result in
    let below : n - m < n = omega (arith, c.if-m-ne0.true) in
    simp (c.saturating_sub.ensures, ← c.shown_by-m.ensures, ← c.minus.ensures, c.if-minus.true, mod-eq_of_lt below)

pub returns-else-m-ne0 : goal.returns-else-m-ne0
unfolding of_digits when◌then◌else◌
returns-else-m-ne0 c = elim c.else-m-ne0.branch [
  | else-m-ne0-via-then-m-ne0+else-minus w ↦ simp (← c.shown_by-m.ensures, ← w.minus.ensures, w.if-minus.false)
  | else-m-ne0-via-else-m-ne0 w ↦ let n = c.args.self in
      let z : n.limit - 0 ≡ n.limit = omega arith in
      by_test (minus n c.args.w.cells) (λ e. simp (← c.shown_by-m.ensures, w.if-m-ne0.false, e, z, mod_self)) (λ e. simp (← c.shown_by-m.ensures, e))
]
