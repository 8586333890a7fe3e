-- What a component shows (01, Fields and Picture): the text of each kind, cell by cell of the display.
use Rattle.std.specs.Prelude.{ℕ, zero, suc, ◌+◌, ◌-◌, ◌/◌, ◌%◌, Bool, List, [], ◌∷◌, ◌++◌, length}
use Rattle.std.specs.Prelude.{get_or, replicate}
use Rattle.laws.specs.Choice.{when◌then◌else◌, ◌=?◌, ◌<?◌}
use Rattle.field.specs.Formats.{signs_of, digits_in, numeral_of, bits_in, bits_of}
use Rattle.field.specs.Values.{number_of, value_at}
use Rattle.field.specs.Cells.{cells_of, in_range, work_of}
use Rattle.field.specs.Settings.{digit_count}
use Rattle.field.specs.Sheet.{size_of}
use Rattle.field.specs.declared.kind.Kind.{Kind}
use Rattle.field.specs.declared.kind.Kind.TheVariants.{Integer, Counter, Time, Date, Switch, Option, Trigger}
use Rattle.field.specs.declared.numeral.Numeral.{Numeral}
use Rattle.field.specs.declared.record.Field.{Field}
use Rattle.cmf.specs.Readers.{text_bytes, item_place}
use Rattle.laws.specs.Digits.{digit0}

-- ---- characters

abbrev pub blank : ℕ
blank = 0x20

abbrev pub hash : ℕ
hash = 0x23

abbrev pub star : ℕ
star = 0x2a

abbrev pub plus : ℕ
plus = 0x2b

abbrev pub dash : ℕ
dash = 0x2d

abbrev pub colon : ℕ
colon = 0x3a

abbrev pub letter_a : ℕ
letter_a = 0x41

-- 01, Fields: hex letters are capitals; a legal digit is below 16, so the blank is never shown
unfoldable pub digit_char : ℕ → ℕ
digit_char d = when d <? 10 then digit0 + d else when d <? 16 then letter_a + (d - 10) else blank

-- a sign cell holds 1 for '+'
unfoldable pub sign_char : ℕ → ℕ
sign_char c = when c =? 0 then dash else plus

-- ---- numbers

-- the characters of n digit cells, the first of them at a place
unfoldable pub digit_cells : List ℕ → ℕ → ℕ → List ℕ
digit_cells cs at zero = []
digit_cells cs at (suc n) = digit_char (get_or cs at 0) ∷ digit_cells cs (at + 1) n

-- 01, Fields: integers and switches show every cell, so leading zeros too; the sign is in front, and a
-- switch's highest bit is its first cell
unfoldable pub numeral_text : Numeral → List ℕ → List ℕ
numeral_text n cs =
    when n.signs =? 0 then digit_cells cs 0 n.digits
    else sign_char (get_or cs 0 0) ∷ digit_cells cs 1 n.digits

-- the n lowest decimal digits of a number
unfoldable pub decimal : ℕ → ℕ → List ℕ
decimal zero x = []
decimal (suc n) x = decimal n (x / 10) ++ ((digit0 + x % 10) ∷ [])

-- a number of at most five digits without leading zeros
abbrev pub plain : ℕ → List ℕ
plain x = decimal (digit_count x) x

-- 01, Fields: a counter below 0 has a '-' and no other has a sign; the cell holds the number with 32,768
-- added
unfoldable pub count_text : ℕ → List ℕ
count_text x = when x <? 32768 then dash ∷ plain (32768 - x) else plain (x - 32768)

-- blanks before a text, or after it, up to a width
abbrev pub aligned_right : ℕ → List ℕ → List ℕ
aligned_right w s = replicate (w - length s) blank ++ s

abbrev pub padded_right : ℕ → List ℕ → List ℕ
padded_right w s = s ++ replicate (w - length s) blank

-- ---- times and dates

-- 01, Fields: hours, minutes and, in the long form, seconds, two digits each
unfoldable pub time_text : Bool → List ℕ → List ℕ
time_text long cs =
    decimal 2 (get_or cs 0 0) ++ (colon ∷
    (decimal 2 (get_or cs 1 0) ++ (when long then colon ∷ decimal 2 (get_or cs 2 0) else [])))

-- 01, Fields: year, month, day; the long form has four digits of the year, the short one two
unfoldable pub year_cells : Bool → ℕ
year_cells long = when long then 4 else 2

unfoldable pub date_text : Bool → List ℕ → List ℕ
date_text long cs =
    decimal (year_cells long) (get_or cs 0 0)
    ++ (dash ∷ (decimal 2 (get_or cs 1 0) ++ (dash ∷ decimal 2 (get_or cs 2 0))))

-- ---- every kind

-- 01, Fields: a star in brackets
abbrev pub trigger_text : List ℕ
trigger_text = 0x5b ∷ star ∷ 0x5d ∷ []

-- what cells show at the component at a place: a counter is right aligned in its width, an option's item at
-- the left
unfoldable pub cells_text : List ℕ → ℕ → Kind → List ℕ → List ℕ
cells_text im p (Integer f) cs = numeral_text (numeral_of f) cs
cells_text im p (Counter s) cs = aligned_right s.width (count_text (get_or cs 0 0))
cells_text im p (Time long) cs = time_text long cs
cells_text im p (Date long) cs = date_text long cs
cells_text im p (Switch n) cs = numeral_text (bits_of n) cs
cells_text im p (Option n w) cs = padded_right w (text_bytes im (item_place im p (get_or cs 0 0)))
cells_text im p Trigger cs = trigger_text

-- how many cells of the display a kind takes
unfoldable pub width_of : Kind → ℕ
width_of (Integer f) = signs_of f + digits_in f
width_of (Counter s) = s.width
width_of (Time long) = when long then 8 else 5
width_of (Date long) = year_cells long + 6
width_of (Switch n) = bits_in n
width_of (Option n w) = w
width_of Trigger = 3

-- a field's bytes in the sheet as one number
abbrev pub sheet_number : List ℕ → Field → ℕ
sheet_number sheet f = number_of (value_at f.sheet.0 (size_of f) sheet)

-- 01, Fields: the sheet's value, or a row of '#' as wide as the field where that is out of range
unfoldable pub field_text : List ℕ → List ℕ → ℕ → Field → List ℕ
field_text im sheet p f =
    when in_range f.kind (sheet_number sheet f)
    then cells_text im p f.kind (work_of (cells_of f.kind (sheet_number sheet f))).cells
    else replicate (width_of f.kind) hash
