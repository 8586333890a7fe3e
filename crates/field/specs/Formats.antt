-- Numbers in cells: the integer formats of section 7, switches, and their ranges (01, Fields).
use Rattle.std.specs.Prelude.{ℕ, ◌-◌, ◌/◌, ◌^◌, min, Bool, true, false}
use Rattle.laws.specs.Choice.{when◌then◌else◌, ◌=?◌, ◌<?◌}
use Rattle.field.specs.declared.kind.Format.{Format}
use Rattle.field.specs.declared.numeral.Numeral.{Numeral}

-- two bytes, signed, hexadecimal, digits
abbrev format : Bool → Bool → Bool → ℕ → Format
format w s h n = record { wide = w; signed = s; hex = h; digits = n }

-- section 7.5, table of codes: the eleven integer masks; a code past them is no integer and reads as the last
unfoldable pub format_of : ℕ → Format
format_of code =
    when code =? 0 then format false false false 2  -- dd
    else when code =? 1 then format false false false 3  -- ddd
    else when code =? 2 then format false false true 2  -- hh
    else when code =? 3 then format false true false 2  -- sdd
    else when code =? 4 then format false true false 3  -- sddd
    else when code =? 5 then format true false false 3  -- DDD
    else when code =? 6 then format true false false 4  -- DDDD
    else when code =? 7 then format true false false 5  -- DDDDD
    else when code =? 8 then format true false true 4  -- HHHH
    else when code =? 9 then format true true false 3  -- SDDD
    else format true true false 4  -- SDDDD

-- 01, Fields: a signed format has a sign cell
unfoldable pub signs_of : Format → ℕ
signs_of f = when f.signed then 1 else 0

-- digit cells: no mask has more than five, and a format that states more is cut, so that every format is
-- sound
unfoldable pub digits_in : Format → ℕ
digits_in f = when f.digits <? 5 then f.digits else 5

unfoldable pub base_of : Format → ℕ
base_of f = when f.hex then 16 else 10

-- how many numbers the bytes can hold
unfoldable pub limit_of : Format → ℕ
limit_of f = when f.wide then 65536 else 256

-- how many of them stand for 0 and above: the lower half where there is a sign (two's complement)
unfoldable pub half_of : Format → ℕ
half_of f = when f.signed then limit_of f / 2 else limit_of f

-- the largest number that the digit cells can show
unfoldable pub top_of : Format → ℕ
top_of f = base_of f ^ digits_in f - 1

-- 01, Fields: an integer's range is what can both be stored and shown in its cells
abbrev pub numeral_of : Format → Numeral
numeral_of f = record {
  signs = signs_of f;
  digits = digits_in f;
  base = base_of f;
  above = min (half_of f - 1) (top_of f);
  below = min (limit_of f - half_of f) (top_of f);
  limit = limit_of f;
}

-- a switch's four bytes hold 32 bits
abbrev pub max_bits : ℕ
max_bits = 32

-- 01, Fields: a switch has a cell for each bit that it states; one that states more than 32 is refused
-- (settings), and cut here so that every switch is sound
unfoldable pub bits_in : ℕ → ℕ
bits_in n = when n <? max_bits then n else max_bits

abbrev pub bits_of : ℕ → Numeral
bits_of n = record {
  signs = 0;
  digits = bits_in n;
  base = 2;
  above = 2 ^ bits_in n - 1;
  below = 0;
  limit = 4294967296;
}
