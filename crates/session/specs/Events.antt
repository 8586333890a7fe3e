-- 01, The four calls: the event numbers.
use Rattle.std.specs.Prelude.{ℕ}

-- 0 to 9 are the digits
abbrev pub last_digit_key : ℕ
last_digit_key = 9

abbrev pub point : ℕ
point = 10

abbrev pub up : ℕ
up = 11

abbrev pub down : ℕ
down = 12

abbrev pub left : ℕ
left = 13

abbrev pub right : ℕ
right = 14

abbrev pub enter : ℕ
enter = 15

abbrev pub second : ℕ
second = 16
