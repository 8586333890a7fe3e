-- Digits from the first on: a power of the base can be subtracted as often as the digit there says, and what is left has the other digits; once over base and count.
use Prim.Native.Nat.{ℕ, zero, suc, ◌+◌, ◌-◌, ◌*◌, ◌/◌, ◌%◌, ◌^◌, ◌<◌, min}
use mathlib.Core.Path.{◌≡◌, refl, sym, ap, ◌∙◌}
use mathlib.Core.List.{List, ◌∷◌}
use native.Mathlib.Nat.{div-add-mod', div-lt_iff_lt-mul, pow-suc, pow-succ', pow-zero, mul_assoc, mul-add-div_right, mul-add-mod_self_right, mod-eq_of_lt, div-one, div-div-eq-div-mul, one-le-pow, mod-lt}
use native.Mathlib.Omega.{arith}
use lib.ListN.{length, set}
use Rattle.laws.specs.Overwrite.{over}
use Rattle.laws.specs.Digits.{digits_of}
use Rattle.laws.proofs.Overwriting.{over_cons}

-- one digit more in front
pub first_of : (b n x : ℕ) → digits_of b (suc n) x ≡ x / b ^ n % b ∷ digits_of b n x
unfolding digits_of
first_of b zero x = rw (pow-zero, div-one)
first_of b (suc n) x = rw (first_of b n (x / b), div-div-eq-div-mul, ← pow-succ' b n)

-- digits do not see what is above them
digits_above : (b n q r : ℕ) → 0 < b → digits_of b n (q * b ^ n + r) ≡ digits_of b n r
unfolding digits_of
digits_above b zero q r h = refl
digits_above b (suc n) q r h =
    rw (pow-suc b n, ← mul_assoc q (b ^ n) b, mul-add-div_right h (q * b ^ n) r, mul-add-mod_self_right (q * b ^ n) b r, digits_above b n q (r / b) h)

-- so the digits of a number are those of what they show
pub digits_low : (b n x : ℕ) → 0 < b → digits_of b n (x % b ^ n) ≡ digits_of b n x
digits_low b n x h =
    sym (digits_above b n (x / b ^ n) (x % b ^ n) h) ∙ ap (λ (y : ℕ). digits_of b n y) (div-add-mod' x (b ^ n))

-- of n digits the first, d, says how often the power below it can be subtracted, and what is left, r, has the others
module _ (b n x d r : ℕ) (pos : 0 < b) (some : 0 < n) (shown : x < b ^ n)
    (first : d ≡ min (b - 1) (x / b ^ (n - 1))) (rest : r ≡ x - d * b ^ (n - 1)) where
  whole : n ≡ suc (n - 1)
  whole = omega arith

  power_pos : 0 < b ^ (n - 1)
  power_pos = one-le-pow (n - 1) b pos

  below : x / b ^ (n - 1) < b
  below = (div-lt_iff_lt-mul power_pos).1 (rw (whole, pow-succ' b (n - 1)) at shown)

  pub first_is : d ≡ x / b ^ (n - 1)
  first_is = omega (arith, first, below)

  pub first_below : d < b
  first_below = rw first_is below

  pub rest_is : r ≡ x % b ^ (n - 1)
  rest_is = omega (arith, rest, ap (λ (q : ℕ). q * b ^ (n - 1)) first_is, div-add-mod' x (b ^ (n - 1)))

  pub rest_below : r < b ^ (n - 1)
  rest_below = rw rest_is (mod-lt x power_pos)

  pub digits_by_powers : digits_of b n x ≡ d ∷ digits_of b (n - 1) r
  digits_by_powers =
      ap (λ (m : ℕ). digits_of b m x) whole ∙ first_of b (n - 1) x
      ∙ rw (← first_is, mod-eq_of_lt first_below, rest_is, digits_low b (n - 1) x pos)

  -- a turn of a loop that writes them
  pub power_turn : (i : ℕ) (ds : List ℕ) → i < length ds → over (set ds i d) (suc i) (digits_of b (n - 1) r) ≡ over ds i (digits_of b n x)
  power_turn i ds l = over_cons ds i d (digits_of b (n - 1) r) l ∙ rw digits_by_powers
