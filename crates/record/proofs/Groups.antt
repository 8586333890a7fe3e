-- The groups of a number by its size.
use Prim.Native.Nat.{ℕ, ◌+◌, ◌/◌, ◌%◌, ◌≤◌, ◌<◌}
use mathlib.Core.Path.{◌≡◌, ap, ◌∙◌}
use mathlib.Core.List.{[], ◌∷◌}
use native.Mathlib.Omega.{arith}
use lib.ListN.{length}
use borrow.Author.Tests.{ltb-true, ltb-false}
use Rattle.laws.specs.Choice.{◌<?◌}
use Rattle.laws.proofs.Cases.{if_lt, if_ge, by_test}
use Rattle.record.specs.Numbers.{encoded}

-- a number by the number of its groups
pub by_groups : {A : Type 0} (n : ℕ) → (n < 128 → A) → (128 ≤ n → n < 16384 → A) → (16384 ≤ n → A) → A
by_groups n one two three =
    by_test (n <? 128) (λ t. one (ltb-true n 128 t))
    (λ t. by_test (n <? 16384) (λ u. two (ltb-false n 128 t) (ltb-true n 16384 u)) (λ u. three (ltb-false n 16384 u)))

module _ (n : ℕ) where
  pub one_group : n < 128 → encoded n ≡ n ∷ []
  unfolding encoded
  one_group h = if_lt n 128 _ _ h

  pub two_groups : 128 ≤ n → n < 16384 → encoded n ≡ (128 + n / 128) ∷ (n % 128) ∷ []
  unfolding encoded
  two_groups h k = if_ge n 128 _ _ h ∙ if_lt n 16384 _ _ k

  pub three_groups : 16384 ≤ n → encoded n ≡ (128 + n / 16384) ∷ (128 + n / 128 % 128) ∷ (n % 128) ∷ []
  unfolding encoded
  three_groups h = if_ge n 128 _ _ (omega arith) ∙ if_ge n 16384 _ _ h

  -- how many there are
  count_one : n < 128 → length (encoded n) ≡ 1
  count_one h = ap length (one_group h)

  count_two : 128 ≤ n → n < 16384 → length (encoded n) ≡ 2
  count_two h k = ap length (two_groups h k)

  count_three : 16384 ≤ n → length (encoded n) ≡ 3
  count_three h = ap length (three_groups h)

  pub count_most : length (encoded n) ≤ 3
  count_most = by_groups n (λ h. omega (arith, count_one h)) (λ h k. omega (arith, count_two h k)) (λ h. omega (arith, count_three h))
