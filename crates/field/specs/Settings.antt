-- The settings that an image may give a field (01, Fields; refusal 9).
use Rattle.std.specs.Prelude.{ℕ, ◌+◌, ◌-◌, Bool, true}
use Rattle.laws.specs.Choice.{when◌then◌else◌, ◌and◌, ◌<?◌, ◌≤?◌}
use Rattle.field.specs.Formats.{max_bits}
use Rattle.field.specs.Values.{number_of}
use Rattle.field.specs.Cells.{in_range}
use Rattle.field.specs.declared.kind.Kind.{Kind}
use Rattle.field.specs.declared.kind.Kind.TheVariants.{Integer, Counter, Time, Date, Switch, Option}
use Rattle.field.specs.declared.kind.Kind.TheVariants.{Trigger}
use Rattle.field.specs.declared.kind.CounterSettings.{CounterSettings}
use Rattle.field.specs.declared.value.Value.{Value}

-- how many decimal digits a number of at most five digits has
unfoldable pub digit_count : ℕ → ℕ
digit_count x =
    when x <? 10 then 1 else when x <? 100 then 2 else when x <? 1000 then 3 else when x <? 10000 then 4 else 5

-- the cells of a counter's biased number; 01, Fields: '-' only below 0
unfoldable pub counted_cells : ℕ → ℕ
counted_cells x = when x <? 32768 then 1 + digit_count (32768 - x) else digit_count (x - 32768)

-- 01, Fields: a counter's step is at least 1, as a signed number
unfoldable pub step_fits : CounterSettings → Bool
step_fits s = (1 ≤? s.step) and (s.step <? 32768)

-- 01, Fields: its width is enough for min and for max
unfoldable pub width_fits : CounterSettings → Bool
width_fits s = (counted_cells s.min ≤? s.width) and (counted_cells s.max ≤? s.width)

-- 01, Fields: a switch has from one bit to as many as it stores; an option has 1 to 255 items, and its count
-- is one byte
unfoldable pub kind_fits : Kind → Bool
kind_fits (Integer f) = true
kind_fits (Counter s) = step_fits s and width_fits s
kind_fits (Time long) = true
kind_fits (Date long) = true
kind_fits (Switch n) = (1 ≤? n) and (n ≤? max_bits)
kind_fits (Option n w) = 1 ≤? n
kind_fits Trigger = true

-- good settings, and a default in range: for a counter this is min <= default <= max, and for a date that it
-- is real (02, No. 3)
unfoldable pub settings_fit : Kind → Value → Bool
settings_fit k d = kind_fits k and in_range k (number_of d)
