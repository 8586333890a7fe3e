-- The calendar of dates (02, No. 3): the Gregorian rule for every year from 0 on.
use Rattle.std.specs.Prelude.{ℕ, ◌+◌, ◌%◌, ◌≤◌, Bool}
use Rattle.laws.specs.Choice.{when◌then◌else◌, ◌=?◌}

-- a year that 4 divides is a leap year, but one that 100 divides only if 400 does; so year 0 is one
unfoldable pub leap_year : ℕ → Bool
leap_year y = when y % 100 =? 0 then y % 400 =? 0 else y % 4 =? 0

-- the last day of a month: February has 28 days, 29 in a leap year; April, June, September and November have
-- 30; the others have 31, and so has a number that is no month, which is out of range by itself
unfoldable pub month_end : ℕ → ℕ → ℕ
month_end y m =
    when m =? 2 then (when leap_year y then 29 else 28)
    else when m =? 4 then 30
    else when m =? 6 then 30
    else when m =? 9 then 30
    else when m =? 11 then 30
    else 31

-- R51: a short year counts from 2000
unfoldable pub full_year : Bool → ℕ → ℕ
full_year long y = when long then y else 2000 + y

-- a real date, by its year, month and day; what is in range is one (`proofs/Dates`)
pub record RealDate (long : Bool) (y m d : ℕ) : Type 0 where
  pub year : y ≤ (when long then 9999 else 99)
  pub month : (1 ≤ m) × (m ≤ 12)
  pub day : (1 ≤ d) × (d ≤ month_end (full_year long y) m)
