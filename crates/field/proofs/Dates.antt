-- A date is in range exactly if it is real; and the dates that are often argued about, by computation.
use Prim.Native.Nat.{ℕ, ◌+◌, ◌*◌, ◌/◌, ◌%◌}
use mathlib.Core.Path.{◌≡◌, refl, sym, ◌∙◌}
use mathlib.Core.Bool.{Bool, true, false}
use mathlib.Core.List.{List, [], ◌∷◌, map}
use native.Mathlib.Omega.{arith}
use borrow.Author.Tests.{leb-true, le-leb}
use Rattle.laws.specs.Choice.{when◌then◌else◌, ◌and◌}
use Rattle.laws.proofs.Cases.{and_i, and_l, and_r}
use Rattle.field.specs.Calendar.{leap_year, month_end, full_year, RealDate}
use Rattle.field.specs.Profiles.{profile_of, year_cell, end_of, cell_of}
use Rattle.field.specs.Cells.{cells_of, in_span, within, all_within, in_range}
use Rattle.field.specs.declared.kind.Kind.TheVariants.{Date}
use Rattle.field.proofs.Ranges.{range_of_date}

-- ---- exactly the real ones

-- year, month and day of a date's number
abbrev pub year_in : ℕ → ℕ
year_in x = x / 65536

abbrev pub month_in : ℕ → ℕ
month_in x = x / 256 % 256

abbrev pub day_in : ℕ → ℕ
day_in x = x % 256

module _ (long : Bool) (x : ℕ) where
  pub range_real : in_range (Date long) x ≡ true → RealDate long (year_in x) (month_in x) (day_in x)
  unfolding within
  range_real e =
      let h = sym (range_of_date long x) ∙ e in
      let ym = and_l _ _ h in
      let m = and_r _ _ ym in
      let d = and_r _ _ h in
      record {
        year = leb-true (year_in x) (year_cell long).high (and_r _ _ (and_l _ _ ym));
        month = (leb-true 1 (month_in x) (and_l _ _ m), leb-true (month_in x) 12 (and_r _ _ m));
        day = (leb-true 1 (day_in x) (and_l _ _ d), leb-true (day_in x) (month_end (full_year long (year_in x)) (month_in x)) (and_r _ _ d));
      }

  pub real_range : RealDate long (year_in x) (month_in x) (day_in x) → in_range (Date long) x ≡ true
  unfolding within
  real_range r =
      range_of_date long x
      ∙ and_i (and_i (and_i (le-leb 0 (year_in x) (omega arith)) (le-leb (year_in x) (year_cell long).high r.year)) (and_i (le-leb 1 (month_in x) r.month.0) (le-leb (month_in x) 12 r.month.1)))
      (and_i (le-leb 1 (day_in x) r.day.0) (le-leb (day_in x) (month_end (full_year long (year_in x)) (month_in x)) r.day.1))

-- ---- dates that are often argued about

-- with a year of four digits or not, the year, the month, the day; whether it is real
pub record Case : Type 0 where
  pub long : Bool
  pub year : ℕ
  pub month : ℕ
  pub day : ℕ
  pub real : Bool

abbrev long : ℕ → ℕ → ℕ → Bool → Case
long y m d r = record { long = true; year = y; month = m; day = d; real = r }

abbrev short : ℕ → ℕ → ℕ → Bool → Case
short y m d r = record { long = false; year = y; month = m; day = d; real = r }

unfoldable pub argued : List Case
argued =
    -- leap years: 0, 2000 and 2400
    long 0 2 29 true
    ∷ long 2000 2 29 true
    ∷ long 2400 2 29 true
    -- 1900 and 2100 are none
    ∷ long 1900 2 29 false
    ∷ long 2100 2 29 false
    ∷ long 1900 2 28 true
    ∷ long 2100 2 28 true
    -- no February has 30 days
    ∷ long 2000 2 30 false
    ∷ long 2024 2 29 true
    ∷ long 2023 2 29 false
    -- months of 30 days and of 31
    ∷ long 2024 4 31 false
    ∷ long 2024 4 30 true
    ∷ long 2024 7 31 true
    ∷ long 2024 8 31 true
    -- the last date that there is
    ∷ long 9999 12 31 true
    -- short 00 is 2000, and short 99 is 2099
    ∷ short 0 2 29 true
    ∷ short 99 2 29 false
    ∷ short 96 2 29 true
    ∷ []

-- a case's date in the field's number
abbrev pub is_real : Case → Bool
is_real c = in_range (Date c.long) (c.day + 256 * c.month + 65536 * c.year)

pub as_argued : map is_real argued ≡ map (λ (c : Case). c.real) argued
unfolding argued leap_year month_end full_year profile_of end_of cell_of cells_of in_span within all_within in_range ◌and◌ when◌then◌else◌
as_argued = refl
