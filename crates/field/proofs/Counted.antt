-- The count of a number's decimal digits is right: that many show it, and one fewer would not.
use Prim.Native.Nat.{ℕ, ◌-◌, ◌^◌, ◌≤◌, ◌<◌}
use native.Mathlib.Omega.{arith}
use borrow.Author.Tests.{ltb-true, ltb-false}
use Rattle.laws.specs.Choice.{when◌then◌else◌, ◌<?◌}
use Rattle.laws.proofs.Cases.{if_ind}
use Rattle.field.specs.Settings.{digit_count}

-- n digits show x, and fewer do not: 0 has one digit
pub record Shows (x n : ℕ) : Type 0 where
  pub enough : x < 10 ^ n
  pub least : 1 < n → 10 ^ (n - 1) ≤ x

module _ (x : ℕ) (h : x < 100000) where
  next : (m k : ℕ) {y : ℕ} → (x < m → Shows x k) → (m ≤ x → Shows x y) → Shows x (when x <? m then k else y)
  next m k f g = if_ind (λ (n : ℕ). Shows x n) (x <? m) (λ e. f (ltb-true x m e)) (λ e. g (ltb-false x m e))

  pub places_right : Shows x (digit_count x)
  unfolding digit_count
  places_right =
      next 10 1 (λ b. record { enough = omega arith; least = λ l. absurd (omega arith) })
      (λ a. next 100 2 (λ b. record { enough = omega arith; least = λ l. omega arith })
      (λ a. next 1000 3 (λ b. record { enough = omega arith; least = λ l. omega arith })
      (λ a. next 10000 4 (λ b. record { enough = omega arith; least = λ l. omega arith })
      (λ a. record { enough = omega arith; least = λ l. omega arith }))))
