-- What a test says of each number below a bound, by computing it once; and so a table that has the right number in each row.
use Prim.Native.Nat.{ℕ, zero, suc, ◌<◌}
use mathlib.Core.Path.{◌≡◌}
use mathlib.Core.Bool.{Bool, true}
use mathlib.Core.List.{List}
use native.Mathlib.Omega.{arith}
use lib.ListN.{get_or}
use borrow.Author.Tests.{eqb-true, eqb-false}
use Rattle.laws.specs.Choice.{◌and◌, ◌=?◌}
use Rattle.laws.proofs.Cases.{by_test, and_l, and_r}

-- a test of each number below a bound
abbrev pub pass_all : (ℕ → Bool) → ℕ → Bool
pass_all test zero = true
pass_all test (suc n) = test n and pass_all test n

-- so each of them passes it
pub passes : (test : ℕ → Bool) (n : ℕ) → pass_all test n ≡ true → (c : ℕ) → c < n → test c ≡ true
passes test zero e c h = absurd (omega arith)
passes test (suc n) e c h =
    by_test (c =? n) (λ q. rw (eqb-true c n q) (and_l _ _ e)) (λ q. passes test n (and_r (test n) _ e) c (omega (arith, eqb-false c n q)))

-- a table of n rows has in each what the function says
abbrev pub RightAt : (ℕ → ℕ) → ℕ → List ℕ → Type 0
RightAt f n table = pass_all (λ (c : ℕ). get_or table c 0 =? f c) n ≡ true

pub right_at : (f : ℕ → ℕ) (n : ℕ) (table : List ℕ) → RightAt f n table → (c : ℕ) → c < n → get_or table c 0 ≡ f c
right_at f n table e c h = eqb-true (get_or table c 0) (f c) (passes (λ (c : ℕ). get_or table c 0 =? f c) n e c h)
