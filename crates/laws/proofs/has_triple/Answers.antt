-- Each return is the order of the count's third and k, as the tests on its path have it.
use native.Mathlib.Omega.{arith}
use Prim.Native.Nat.{ℕ, ◌+◌, ◌-◌, ◌*◌, ◌/◌, ◌≤◌, ◌<◌}
use mathlib.Core.Path.{◌≡◌, sym, ◌∙◌}
use borrow.Author.Tests.{lt-ltb, le-ltb, leb-true, leb-false}
use Rattle.laws.specs.Choice.{◌<?◌, ◌≤?◌}
use Rattle.laws.proofs.Cases.{by_test}
use Rattle.laws.proofs.has_triple.Goals as goal
use Rattle.laws.proofs.has_triple.Goals.{then-k-most, else-k-most}

-- a test that says how 3 * k + 3 and the count stand
by_order : (a b k count : ℕ) → (a ≤ b → 3 * k + 3 ≤ count) → (b < a → count < 3 * k + 3) → (a ≤? b) ≡ (k <? (count / 3))
by_order a b k count f g =
    by_test (a ≤? b)
    (λ e. let h = f (leb-true a b e) in e ∙ sym (lt-ltb k (count / 3) (omega arith)))
    (λ e. let h = g (leb-false a b e) in e ∙ sym (le-ltb k (count / 3) (omega arith)))

pub returns-then-count-lt3 : goal.returns-then-count-lt3
returns-then-count-lt3 c = sym (le-ltb c.args.k (c.args.count / 3) (omega arith))

pub returns-then-k-most-2 : goal.returns-then-k-most-2
returns-then-k-most-2 c = let a = c.args in
    elim c.if-k-most.branch [
      | then-k-most w ↦ let h = leb-true a.k (a.count - 3 - a.k) (sym w.value-is ∙ c.if-k-most-2.true) in
          by_order a.k (a.count - 3 - a.k - a.k) a.k a.count (λ f. omega arith) (λ f. omega arith)
      | else-k-most w ↦ let h = leb-true a.k (a.count - 3) (sym w.value-is ∙ c.if-k-most-2.true) in
          absurd (omega (arith, w.if-k-most.false))
    ]

pub returns-else-k-most-2 : goal.returns-else-k-most-2
returns-else-k-most-2 c = let a = c.args in
    elim c.if-k-most.branch [
      | then-k-most w ↦ let h = leb-false a.k (a.count - 3 - a.k) (sym w.value-is ∙ c.if-k-most-2.false) in
          c.if-k-most-2.false ∙ sym (le-ltb a.k (a.count / 3) (omega arith))
      | else-k-most w ↦ c.if-k-most-2.false ∙ sym (le-ltb a.k (a.count / 3) (omega (arith, w.if-k-most.false)))
    ]
