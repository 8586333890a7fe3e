-- The calendar: what its definitions come to, by computation where a reader would count, and by the remainders elsewhere.
use Prim.Native.Nat.{ℕ, zero, suc, ◌+◌, ◌-◌, ◌*◌, ◌/◌, ◌%◌, ◌≤◌, ◌<◌}
use mathlib.Core.Path.{◌≡◌, refl, sym, ◌∙◌}
use mathlib.Core.Logic.{◌⊎◌, inl, inr}
use mathlib.Core.Bool.{Bool, true, false}
use mathlib.Core.List.{[], ◌∷◌, map}
use native.Mathlib.Omega.{arith}
use lib.Dec.{lit≤}
use borrow.Author.Tests.{eq-eqb, ne_eqb, eqb-true}
use Rattle.laws.specs.Choice.{when◌then◌else◌, ◌and◌, ◌=?◌}
use Rattle.laws.proofs.Cases.{if_true, if_false, if_eq, if_ne, if_max, if_min, by_test}
use Rattle.laws.proofs.Tables.{passes}
use Rattle.field.specs.Calendar.{leap_year, month_end, full_year}

-- ---- by computation

-- the sum of a function below a number
unfoldable pub sum_to : (ℕ → ℕ) → ℕ → ℕ
sum_to f zero = 0
sum_to f (suc n) = sum_to f n + f n

-- the days of a year
abbrev pub year_days : ℕ → ℕ
year_days y = sum_to (λ m. month_end y (m + 1)) 12

-- 400 years have 146,097 days: 365 each, and 97 more
pub cycle_days : sum_to year_days 400 ≡ 146097
unfolding sum_to month_end leap_year when◌then◌else◌
cycle_days = refl

-- the leap years before a year, counted by multiples of 4, 100 and 400
abbrev pub leaps_before : ℕ → ℕ
leaps_before y = (y + 3) / 4 - (y + 99) / 100 + (y + 399) / 400

-- by that count too each of the 400 has its days
pub year_days_lem : (y : ℕ) → y < 400 → year_days y ≡ 365 + (leaps_before (y + 1) - leaps_before y)
unfolding sum_to month_end leap_year when◌then◌else◌ ◌and◌
year_days_lem y h = eqb-true _ _ (passes (λ (n : ℕ). year_days n =? 365 + (leaps_before (n + 1) - leaps_before n)) 400 refl y h)

-- the twelve months of a common year, and of a leap year
pub months : map (λ (y : ℕ). map (month_end y) (1 ∷ 2 ∷ 3 ∷ 4 ∷ 5 ∷ 6 ∷ 7 ∷ 8 ∷ 9 ∷ 10 ∷ 11 ∷ 12 ∷ [])) (2023 ∷ 2024 ∷ [])
    ≡ (31 ∷ 28 ∷ 31 ∷ 30 ∷ 31 ∷ 30 ∷ 31 ∷ 31 ∷ 30 ∷ 31 ∷ 30 ∷ 31 ∷ [])
    ∷ (31 ∷ 29 ∷ 31 ∷ 30 ∷ 31 ∷ 30 ∷ 31 ∷ 31 ∷ 30 ∷ 31 ∷ 30 ∷ 31 ∷ [])
    ∷ []
unfolding month_end leap_year when◌then◌else◌
months = refl

-- ---- any year and month

-- a month has 28 to 31 days
pub end_most : (y m : ℕ) → month_end y m ≤ 31
unfolding month_end
end_most y m = if_max _ (if_max _ (lit≤ tt) (lit≤ tt)) (if_max _ (lit≤ tt) (if_max _ (lit≤ tt) (if_max _ (lit≤ tt) (if_max _ (lit≤ tt) (lit≤ tt)))))

pub end_least : (y m : ℕ) → 28 ≤ month_end y m
unfolding month_end
end_least y m = if_min _ (if_min _ (lit≤ tt) (lit≤ tt)) (if_min _ (lit≤ tt) (if_min _ (lit≤ tt) (if_min _ (lit≤ tt) (if_min _ (lit≤ tt) (lit≤ tt)))))

-- the months of 30 days, and those of 31
pub end_short : (y m : ℕ) → (m ≡ 4) ⊎ ((m ≡ 6) ⊎ ((m ≡ 9) ⊎ (m ≡ 11))) → 30 ≡ month_end y m
unfolding month_end when◌then◌else◌
end_short y m (inl e) = rw e
end_short y m (inr (inl e)) = rw e
end_short y m (inr (inr (inl e))) = rw e
end_short y m (inr (inr (inr e))) = rw e

pub end_long : (y m : ℕ) → (m ≡ 2 → ⊥) → ((m ≡ 4) ⊎ ((m ≡ 6) ⊎ ((m ≡ 9) ⊎ (m ≡ 11))) → ⊥) → 31 ≡ month_end y m
unfolding month_end
end_long y m a b =
    sym (if_ne m 2 _ _ a ∙ if_ne m 4 _ _ (λ e. b (inl e)) ∙ if_ne m 6 _ _ (λ e. b (inr (inl e))) ∙ if_ne m 9 _ _ (λ e. b (inr (inr (inl e)))) ∙ if_ne m 11 _ _ (λ e. b (inr (inr (inr e)))))

-- a year that 4 does not divide is no leap year, and of those that it divides three in 400 are none
pub leap_not_fourth : (y : ℕ) → (y % 4 ≡ 0 → ⊥) → false ≡ leap_year y
unfolding leap_year
leap_not_fourth y h = sym (if_ne (y % 100) 0 _ _ (λ e. h (omega arith)) ∙ ne_eqb (y % 4) 0 h)

leap_not_hundred : (y : ℕ) → y % 100 ≡ 0 → (y % 400 ≡ 0 → ⊥) → false ≡ leap_year y
unfolding leap_year
leap_not_hundred y h n = sym (if_eq (y % 100) 0 _ _ h ∙ ne_eqb (y % 400) 0 n)

leap_other : (y : ℕ) → y % 4 ≡ 0 → (y % 400 ≡ 100 → ⊥) → (y % 400 ≡ 200 → ⊥) → (y % 400 ≡ 300 → ⊥) → true ≡ leap_year y
unfolding leap_year
leap_other y h a b c =
    by_test (y % 100 =? 0) (λ e. let z = eqb-true (y % 100) 0 e in sym (if_true _ _ e ∙ eq-eqb (y % 400) 0 (omega arith)))
    (λ e. sym (if_false _ _ e ∙ eq-eqb (y % 4) 0 h))

pub leap_hundred : (y r : ℕ) → r ≡ y % 400 → (r ≡ 100) ⊎ ((r ≡ 200) ⊎ (r ≡ 300)) → false ≡ leap_year y
leap_hundred y r h (inl e) = leap_not_hundred y (omega arith) (λ z. omega arith)
leap_hundred y r h (inr (inl e)) = leap_not_hundred y (omega arith) (λ z. omega arith)
leap_hundred y r h (inr (inr e)) = leap_not_hundred y (omega arith) (λ z. omega arith)

pub leap_fourth : (y r : ℕ) → r ≡ y % 400 → y % 4 ≡ 0 → ((r ≡ 100) ⊎ ((r ≡ 200) ⊎ (r ≡ 300)) → ⊥) → true ≡ leap_year y
leap_fourth y r h z n = leap_other y z (λ e. n (inl (h ∙ e))) (λ e. n (inr (inl (h ∙ e)))) (λ e. n (inr (inr (h ∙ e))))

-- the calendar repeats after 400 years, and so after any multiple of 400
pub leap_again : (n y : ℕ) → leap_year (400 * n + y) ≡ leap_year y
unfolding leap_year
leap_again n y =
    let a : (400 * n + y) % 100 ≡ y % 100 = omega arith in
    let b : (400 * n + y) % 400 ≡ y % 400 = omega arith in
    let c : (400 * n + y) % 4 ≡ y % 4 = omega arith in
    rw (a, b, c)

-- such as 2000: a short year may be taken as it is
pub end_full : (long : Bool) (y m : ℕ) → month_end (full_year long y) m ≡ month_end y m
unfolding month_end full_year when◌then◌else◌
end_full true y m = refl
end_full false y m = rw (leap_again 5 y)
