-- Settings that fit, told by tests on a default's number, and that number told by its bytes.
use Prim.Native.Nat.{ℕ, ◌+◌, ◌*◌, ◌/◌, ◌%◌, ◌^◌, ◌≤◌, ◌<◌}
use mathlib.Core.Path.{◌≡◌, refl, ◌∙◌}
use mathlib.Core.Bool.{Bool, true}
use mathlib.Core.List.{List}
use native.Mathlib.Omega.{arith}
use borrow.Author.Tests.{le-leb, ltb-false}
use Rattle.laws.specs.Choice.{when◌then◌else◌, ◌and◌, ◌<?◌}
use Rattle.laws.specs.Bytes.{byte_at, word_at}
use Rattle.laws.specs.Digits.{from_low, number_from}
use Rattle.laws.proofs.Cases.{if_ind, if_le, and_i}
use Rattle.field.specs.Formats.{numeral_of, bits_in, bits_of}
use Rattle.field.specs.Calendar.{month_end}
use Rattle.field.specs.Profiles.{time_cell, year_cell, month_cell, day_cell}
use Rattle.field.specs.Cells.{spans, within, in_range}
use Rattle.field.specs.Settings.{step_fits, width_fits, kind_fits, settings_fit}
use Rattle.field.specs.Values.{number_of, value_at}
use Rattle.field.specs.declared.kind.Format.{Format}
use Rattle.field.specs.declared.kind.Kind.TheVariants.{Integer, Counter, Time, Date, Switch}
use Rattle.field.specs.declared.kind.CounterSettings.{CounterSettings}
use Rattle.field.specs.declared.numeral.Numeral.{Numeral}
use Rattle.field.specs.declared.profile.Cell.{Cell}
use Rattle.field.specs.declared.value.Value.{Value}
use Rattle.field.proofs.Calendars.{end_full}
use Rattle.field.proofs.Padded.{part_four}
use Rattle.field.proofs.Ranges.{range_of_integer, range_of_time, range_of_date, range_of_switch}

-- ---- the number in two, three and four bytes

module _ (at : ℕ) (s : List ℕ) where
  pub two_bytes : number_of (value_at at 2 s) ≡ word_at s at
  unfolding number_of from_low number_from when◌then◌else◌ word_at
  two_bytes = rw (part_four at 2 s) (omega arith)

  pub three_bytes : number_of (value_at at 3 s) ≡ byte_at s at + 256 * byte_at s (at + 1) + 65536 * byte_at s (at + 2)
  unfolding number_of from_low number_from when◌then◌else◌
  three_bytes = rw (part_four at 3 s) (omega arith)

  pub four_bytes : number_of (value_at at 4 s) ≡ byte_at s at + 256 * byte_at s (at + 1) + 65536 * (byte_at s (at + 2) + 256 * byte_at s (at + 3))
  unfolding number_of from_low number_from when◌then◌else◌
  four_bytes = rw (part_four at 4 s) (omega arith)

-- ---- integers

-- a number up to the highest, and one from where those begin that stand for numbers below 0
pub spans_above : (n : Numeral) (x : ℕ) → x ≤ n.above → spans n x ≡ true
unfolding spans
spans_above n x h = if_le x n.above _ _ h

pub integer_fits : (f : Format) (v : Value) → spans (numeral_of f) (number_of v) ≡ true → settings_fit (Integer f) v ≡ true
unfolding settings_fit kind_fits ◌and◌
integer_fits f v h = range_of_integer f (number_of v) ∙ h

-- ---- counters, times and dates

pub counter_fits :
    (s : CounterSettings) (v : Value) → step_fits s ≡ true → width_fits s ≡ true → in_range (Counter s) (number_of v) ≡ true →
    settings_fit (Counter s) v ≡ true
unfolding settings_fit kind_fits
counter_fits s v a b r = and_i (and_i a b) r

-- a number between the ends of a cell
within_ends : (c : Cell) {x : ℕ} → c.low ≤ x → x ≤ c.high → within c x ≡ true
unfolding within
within_ends c l h = and_i (le-leb _ _ l) (le-leb _ _ h)

pub time_fits :
    (long : Bool) (v : Value) → number_of v % 256 ≤ 23 → number_of v / 256 % 256 ≤ 59 → (when long then number_of v / 65536 % 256 else 0) ≤ 59 →
    settings_fit (Time long) v ≡ true
unfolding settings_fit kind_fits ◌and◌ when◌then◌else◌
time_fits long v h m s =
    range_of_time long (number_of v)
    ∙ and_i (and_i (within_ends (time_cell 0) (omega arith) h) (within_ends (time_cell 1) (omega arith) m)) (within_ends (time_cell 2) (omega arith) s)

-- the day one of its month, in a year as it is given: a short one needs no 2000 added
pub date_fits :
    (long : Bool) (v : Value) → number_of v / 65536 ≤ (when long then 9999 else 99) → 1 ≤ number_of v / 256 % 256 → number_of v / 256 % 256 ≤ 12 →
    1 ≤ number_of v % 256 → number_of v % 256 ≤ month_end (number_of v / 65536) (number_of v / 256 % 256) → settings_fit (Date long) v ≡ true
unfolding settings_fit kind_fits ◌and◌
date_fits long v y m n d e =
    range_of_date long (number_of v)
    ∙ and_i (and_i (within_ends (year_cell long) (omega arith) y) (within_ends month_cell m n))
    (within_ends (day_cell _) d (rw (end_full long (number_of v / 65536) (number_of v / 256 % 256)) e))

-- ---- switches

few_bits : (n : ℕ) → n ≤ 32 → bits_in n ≡ n
unfolding bits_in
few_bits n h = if_ind (λ (x : ℕ). x ≡ n) (n <? 32) (λ _. refl) (λ e. let q = ltb-false n 32 e in omega arith)

pub switch_fits : (n : ℕ) (v : Value) → 1 ≤ n → n ≤ 32 → number_of v < 2 ^ n → settings_fit (Switch n) v ≡ true
unfolding settings_fit kind_fits
switch_fits n v a b h =
    let e = few_bits n b in
    and_i (and_i (le-leb 1 n a) (le-leb n 32 b)) (range_of_switch n (number_of v) ∙ spans_above (bits_of n) (number_of v) (rw e (omega arith)))
