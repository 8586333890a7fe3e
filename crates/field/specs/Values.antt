-- A field's bytes in the sheet, and the one number that they are.
use Rattle.std.specs.Prelude.{ℕ, List, take}
use Rattle.laws.specs.Parts.{part_at}
use Rattle.laws.specs.Overwrite.{fit}
use Rattle.laws.specs.Digits.{from_low, low_first}
use Rattle.field.specs.declared.value.Value.{Value}

-- a value's bytes: the first count of its four
abbrev pub bytes_of : Value → List ℕ
bytes_of v = take v.count v.bytes

-- n bytes as a value; those past them are 0
abbrev pub value_of : ℕ → List ℕ → Value
value_of n bs = record { bytes = fit 0 4 bs; count = n }

-- the value in the n bytes at a place
abbrev pub value_at : ℕ → ℕ → List ℕ → Value
value_at at n s = value_of n (part_at at n s)

-- a field's bytes as one number, low byte first. 01, Image: so are the two-byte numbers: integers, counters,
-- a date's year. For the rest it is our packing: a time is hours + 256 minutes + 65,536 seconds, a date day +
-- 256 month + 65,536 year, a switch its bits
unfoldable pub number_of : Value → ℕ
number_of v = from_low (bytes_of v)

unfoldable pub value_from : ℕ → ℕ → Value
value_from n x = value_of n (low_first n x)
