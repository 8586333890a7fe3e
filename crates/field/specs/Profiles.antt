-- What a field is (01, Fields and Keys, and 7.5 for its bytes) as two tables: a row for each kind, and a row
-- for each cell.
use Rattle.std.specs.Prelude.{ℕ, ◌+◌, ◌-◌, Bool, true, false, List, get_or}
use Rattle.laws.specs.Choice.{when◌then◌else◌, ◌and◌, ◌=?◌, ◌<?◌}
use Rattle.field.specs.Formats.{signs_of, digits_in, base_of, bits_in}
use Rattle.field.specs.Calendar.{month_end, full_year}
use Rattle.field.specs.declared.kind.CounterSettings.{CounterSettings}
use Rattle.field.specs.declared.kind.Kind.{Kind}
use Rattle.field.specs.declared.kind.Kind.TheVariants.{Integer, Counter, Time, Date, Switch, Option}
use Rattle.field.specs.declared.kind.Kind.TheVariants.{Trigger}
use Rattle.field.specs.declared.profile.Profile.{Profile}
use Rattle.field.specs.declared.profile.Cell.{Cell}
use Rattle.field.specs.declared.work.Work.{Work}

-- A cell here is what one key changes: a sign, a digit, a bit, a part of a time or date, or the whole of a
-- counter or option. (The cells of the display are the picture's.) A kind's row has its cells, its bytes in
-- the sheet, and what keys do in a visit.

-- LEFT and RIGHT move between cells
abbrev pub moving : ℕ → ℕ → Profile
moving c b = record { cells = c; bytes = b; moves = true; slides = false; parts = false; fires = false }

-- LEFT and RIGHT step the value, and UP and DOWN do not
abbrev pub sliding : ℕ → ℕ → Profile
sliding c b = record { cells = c; bytes = b; moves = false; slides = true; parts = false; fires = false }

-- ENTER goes from part to part
abbrev pub parted : ℕ → ℕ → Profile
parted c b = record { cells = c; bytes = b; moves = false; slides = false; parts = true; fires = false }

-- any cursor key fires
abbrev pub firing : ℕ → ℕ → Profile
firing c b = record { cells = c; bytes = b; moves = false; slides = false; parts = false; fires = true }

-- only UP and DOWN step
abbrev pub stepping : ℕ → ℕ → Profile
stepping c b = record { cells = c; bytes = b; moves = false; slides = false; parts = false; fires = false }

-- 01, Fields and Keys: a row for each kind
unfoldable pub profile_of : Kind → Profile
profile_of (Integer f) = moving (signs_of f + digits_in f) (when f.wide then 2 else 1)
profile_of (Counter s) = stepping 1 2
profile_of (Time long) = parted (when long then 3 else 2) (when long then 3 else 2)
profile_of (Date long) = parted 3 (when long then 4 else 3)
profile_of (Switch n) = moving (bits_in n) 4
profile_of (Option n w) = sliding 1 1
profile_of Trigger = firing 1 0

-- a cell with a low end, a high end and a step
abbrev pub ends : ℕ → ℕ → ℕ → Cell
ends l h s = record { low = l; high = h; step = s; sets = false; typed = false }

-- a sign, 1 for '+', or a bit: UP and DOWN set it
abbrev pub flag : Cell
flag = record { low = 0; high = 1; step = 1; sets = true; typed = false }

-- a digit: digit keys set it too
abbrev pub digit : ℕ → Cell
digit base = record { low = 0; high = base - 1; step = 1; sets = false; typed = true }

-- 01, Fields: a counter, the parts of a time, an option
abbrev pub counter_cell : CounterSettings → Cell
counter_cell s = ends s.min s.max s.step

abbrev pub time_cell : ℕ → Cell
time_cell i = when i =? 0 then ends 0 23 1 else ends 0 59 1

abbrev pub option_cell : ℕ → Cell
option_cell n = ends 0 (n - 1) 1

-- 01, Fields: the parts of a date, a day from 1 to a given last one
abbrev pub year_cell : Bool → Cell
year_cell long = ends 0 (when long then 9999 else 99) 1

abbrev pub month_cell : Cell
month_cell = ends 1 12 1

abbrev pub day_cell : ℕ → Cell
day_cell last = ends 1 last 1

-- the day is a date's third part
abbrev pub day_part : ℕ
day_part = 2

-- 02, No. 3: the month's end of a date's cells, by their year and month
unfoldable pub end_of : Bool → List ℕ → ℕ
end_of long cs = month_end (full_year long (get_or cs 0 0)) (get_or cs 1 0)

-- 01, Fields: a row for each cell of a kind, from the left, asked with the cells that it stands among. A
-- date's are year, month, day; only its day takes anything from the others, its high end
unfoldable pub cell_of : Kind → List ℕ → ℕ → Cell
cell_of (Integer f) cs i = when i <? signs_of f then flag else digit (base_of f)
cell_of (Counter s) cs i = counter_cell s
cell_of (Time long) cs i = time_cell i
cell_of (Date long) cs i =
    when i =? 0 then year_cell long
    else when i =? 1 then month_cell
    else day_cell (end_of long cs)
cell_of (Switch n) cs i = flag
cell_of (Option n w) cs i = option_cell n
cell_of Trigger cs i = ends 0 0 1

-- a date's day in a working copy where its part is not chosen yet
unfoldable pub open_day : Kind → Work → ℕ → Bool
open_day (Integer f) w i = false
open_day (Counter s) w i = false
open_day (Time long) w i = false
open_day (Date long) w i = (i =? day_part) and (w.at <? day_part)
open_day (Switch n) w i = false
open_day (Option n o) w i = false
open_day Trigger w i = false

-- R49: the row that a cell of a working copy is held to is its own, but such a day may be any of 1 to 31
unfoldable pub held_to : Kind → Work → ℕ → Cell
held_to k w i = when open_day k w i then day_cell 31 else cell_of k w.cells i
