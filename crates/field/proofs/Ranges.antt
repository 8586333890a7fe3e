-- Ranges of the numbers in digits, which are integers and switches: the eleven of the integer formats by computation,
-- and that a number in its range has legal cells, whatever the format.
use Prim.Native.Nat.{ℕ, ◌+◌, ◌-◌, ◌/◌, ◌%◌, ◌≤◌, ◌<◌}
use mathlib.Core.Path.{◌≡◌, refl, sym, ◌∙◌}
use mathlib.Core.List.{List, [], ◌∷◌, map}
use native.Mathlib.Omega.{arith}
use lib.ListN.{length, get_or, length-append}
use borrow.Author.Tests.{ltb-true, ltb-false, eqb-true, eqb-false}
use lib.Dec.{lit≤}
use mathlib.Core.Bool.{Bool, true, false}
use Rattle.laws.specs.Choice.{when◌then◌else◌, ◌and◌, ◌=?◌, ◌<?◌}
use Rattle.laws.specs.Digits.{digits_of}
use Rattle.laws.proofs.Cases.{if_ind, if_max, if_ne, if_lt, if_ge, and_second}
use Rattle.laws.proofs.Lists.{get_or_left, get_or_right}
use Rattle.laws.proofs.Numerals.{length_digits, digit_below}
use Rattle.field.specs.Formats.{format_of, signs_of, digits_in, base_of, limit_of, half_of, top_of, numeral_of, bits_in, bits_of}
use Rattle.field.specs.Calendar.{month_end, full_year}
use Rattle.field.specs.Profiles.{profile_of, flag, digit, counter_cell, time_cell, option_cell, year_cell, month_cell, day_cell, end_of, cell_of}
use Rattle.field.specs.Cells.{biased, spans, distance, sign_of, in_digits, cells_of, in_span, within, all_within, in_range}
use Rattle.field.specs.Sound.{Sound}
use Rattle.field.specs.declared.numeral.Numeral.{Numeral}
use Rattle.field.specs.declared.kind.Format.{Format}
use Rattle.field.specs.declared.kind.Kind.TheVariants.{Integer, Counter, Time, Date, Switch, Option, Trigger}
use Rattle.field.specs.declared.kind.CounterSettings.{CounterSettings}
use Rattle.field.specs.declared.profile.Cell.{Cell}
use Rattle.field.proofs.Bounds.{base_ge, format_sound, bits_sound}
use Rattle.field.proofs.Legal.{Within, RangeCells, all_bool}

-- ---- by computation

-- how far the range of a code's format goes below 0 and above it
abbrev range_of : ℕ → ℕ × ℕ
range_of code = ((numeral_of (format_of code)).below, (numeral_of (format_of code)).above)

-- the ranges of dd, ddd, hh, sdd, sddd, DDD, DDDD, DDDDD, HHHH, SDDD, SDDDD
pub ranges : map range_of (0 ∷ 1 ∷ 2 ∷ 3 ∷ 4 ∷ 5 ∷ 6 ∷ 7 ∷ 8 ∷ 9 ∷ 10 ∷ [])
    ≡ (0, 99) ∷ (0, 255) ∷ (0, 255) ∷ (99, 99) ∷ (128, 127) ∷ (0, 999) ∷ (0, 9999) ∷ (0, 65535) ∷ (0, 65535) ∷ (999, 999) ∷ (9999, 9999) ∷ []
unfolding format_of signs_of digits_in base_of limit_of half_of top_of when◌then◌else◌
ranges = refl

-- ---- cells of a number in digits

-- a sign cell holds 0 or 1, a digit cell a digit
pub record DigitCells (n : Numeral) (cs : List ℕ) : Type 0 where
  pub sign : (i : ℕ) → i < n.signs → get_or cs i 0 ≤ 1
  pub digit : (i : ℕ) → n.signs ≤ i → i < n.signs + n.digits → get_or cs i 0 < n.base

-- the cells before the digits: the sign, if there is one
abbrev pub front : Numeral → ℕ → List ℕ
front n x = when n.signs =? 0 then [] else sign_of n x ∷ []

-- a sign is 0 or 1
sign_small : (n : Numeral) (x : ℕ) → sign_of n x ≤ 1
unfolding sign_of
sign_small n x = if_max _ (lit≤ tt) (lit≤ tt)

module _ (n : Numeral) (s : Sound n) (x : ℕ) where
  -- as long as the numeral has sign cells
  pub length_front : length (front n x) ≡ n.signs
  length_front =
      if_ind (λ (l : List ℕ). length l ≡ n.signs) (n.signs =? 0)
      (λ e. sym (eqb-true n.signs 0 e)) (λ e. by_one (eqb-false n.signs 0 e))
    where
      by_one : (n.signs ≡ 0 → ⊥) → 1 ≡ n.signs
      by_one e = omega (arith, s.signs)

  -- as many cells as the numeral has
  pub length_cells : length (in_digits n x) ≡ n.signs + n.digits
  unfolding in_digits
  length_cells =
      omega (arith, length-append (front n x) (digits_of n.base n.digits (distance n x)), length_front, length_digits n.base n.digits (distance n x))

  -- a sign cell holds the sign
  pub sign_at : (i : ℕ) → i < n.signs → get_or (in_digits n x) i 0 ≡ sign_of n x
  unfolding in_digits
  sign_at i hi =
      let z : i ≡ 0 = omega (arith, s.signs) in
      let l : i < length (front n x) = omega (arith, length_front) in
      get_or_left (front n x) _ i 0 l ∙ rw (z, if_ne n.signs 0 [] (sign_of n x ∷ []) (λ e. omega arith))

  -- a digit cell holds its digit
  pub digit_at : (i : ℕ) → n.signs ≤ i → get_or (in_digits n x) i 0 ≡ get_or (digits_of n.base n.digits (distance n x)) (i - n.signs) 0
  unfolding in_digits
  digit_at i hi =
      let l : length (front n x) ≤ i = omega (arith, length_front) in
      get_or_right (front n x) _ i 0 l ∙ rw length_front

  -- the cells of any number are a sign and digits
  pub digit_cells_lem : DigitCells n (in_digits n x)
  digit_cells_lem = record {
    sign = λ i hi. rw (sign_at i hi) (sign_small n x);
    digit = λ i lo hi. rw (digit_at i lo) (digit_below n.base n.digits (distance n x) (i - n.signs) (omega (arith, s.two)));
  }

-- ---- the table's rows

module _ (f : Format) (cs : List ℕ) where
  -- an integer's cells within their ends are a sign and digits
  pub integer_digits : RangeCells (Integer f) cs → DigitCells (numeral_of f) cs
  unfolding profile_of cell_of
  integer_digits h = record {
    sign = λ i hi. (rw (if_lt i (signs_of f) flag (digit (base_of f)) hi) at (h.within i (omega arith))).high;
    digit = λ i lo hi. let w = rw (if_ge i (signs_of f) flag (digit (base_of f)) lo) at (h.within i hi) in omega (arith, w.high, base_ge f);
  }

  -- and a sign and digits are within
  pub digits_integer : DigitCells (numeral_of f) cs → RangeCells (Integer f) cs
  unfolding profile_of cell_of
  digits_integer h = record {
    within = λ i hi.
        if_ind (λ (c : Cell). Within c (get_or cs i 0)) (i <? signs_of f)
        (λ e. record { low = omega arith; high = h.sign i (ltb-true i (signs_of f) e) })
        (λ e. record { low = omega arith; high = omega (arith, base_ge f, h.digit i (ltb-false i (signs_of f) e) hi) });
  }

module _ (n : ℕ) (cs : List ℕ) where
  -- a switch's are digits to the base 2
  pub switch_digits : RangeCells (Switch n) cs → DigitCells (bits_of n) cs
  unfolding profile_of cell_of
  switch_digits h = record {
    sign = λ i hi. absurd (omega arith);
    digit = λ i lo hi. let l : i < bits_in n = omega arith in omega (arith, (h.within i l).high);
  }

  -- and such digits are within
  pub digits_switch : DigitCells (bits_of n) cs → RangeCells (Switch n) cs
  unfolding profile_of cell_of
  digits_switch h = record { within = λ i hi. record { low = omega arith; high = omega (arith, h.digit i (omega arith) (omega arith)) } }

-- ---- what the range of a kind comes to

-- an integer is in range where its numeral spans it
pub range_of_integer : (f : Format) (x : ℕ) → in_range (Integer f) x ≡ spans (numeral_of f) x
unfolding in_range in_span cells_of
range_of_integer f x = and_second _ (all_bool _ _ _ (digits_integer f _ (digit_cells_lem (numeral_of f) (format_sound f) x)))

-- and so is a switch
pub range_of_switch : (n x : ℕ) → in_range (Switch n) x ≡ spans (bits_of n) x
unfolding in_range in_span cells_of
range_of_switch n x = and_second _ (all_bool _ _ _ (digits_switch n _ (digit_cells_lem (bits_of n) (bits_sound n) x)))

-- a single cell is all that there is of a counter or an option
pub range_of_counter : (s : CounterSettings) (x : ℕ) → in_range (Counter s) x ≡ within (counter_cell s) (biased x)
unfolding in_range in_span all_within profile_of cell_of cells_of ◌and◌
range_of_counter s x = refl

pub range_of_option : (n w x : ℕ) → in_range (Option n w) x ≡ within (option_cell n) x
unfolding in_range in_span all_within profile_of cell_of cells_of ◌and◌
range_of_option n w x = refl

-- a time is its three cells: seconds that it has not are 0, which is within
pub range_of_time : (long : Bool) (x : ℕ) → in_range (Time long) x
    ≡ (within (time_cell 0) (x % 256) and within (time_cell 1) (x / 256 % 256)) and within (time_cell 2) (when long then x / 65536 % 256 else 0)
unfolding in_range in_span all_within profile_of cells_of cell_of within ◌and◌ when◌then◌else◌
range_of_time true x = refl
range_of_time false x = sym (and_second _ refl)

-- a date is its three, and the day one of its month
pub range_of_date : (long : Bool) (x : ℕ) → in_range (Date long) x
    ≡ (within (year_cell long) (x / 65536) and within month_cell (x / 256 % 256)) and within (day_cell (month_end (full_year long (x / 65536)) (x / 256 % 256))) (x % 256)
unfolding in_range in_span all_within profile_of cell_of end_of cells_of ◌and◌ when◌then◌else◌
range_of_date long x = refl

-- a trigger is always in range
pub range_of_trigger : (x : ℕ) → in_range Trigger x ≡ true
unfolding in_range in_span all_within profile_of cell_of cells_of within ◌and◌
range_of_trigger x = refl
