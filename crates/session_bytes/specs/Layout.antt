-- A session as bytes, and back. A place is kept in eight bytes, so that every session that the code can hold
-- comes back as it was.
--
--   at   bytes
--    0   1, 1, 1    columns, lines, how many tables are open above the shown one
--    3   7 x 10     those tables from the top: place (8), cursor line, first shown line
--   73   10         the shown table, likewise
--   83   1          idle count
--   84   1, 8       mode (0 browsing, 1 visit, 2 password); component's place, or count of digits typed
--   93   1          the chosen cell of the working copy
--   94   32 x 4     its cells
--  222   8 x 1      the digits typed
use Rattle.std.specs.Prelude.{ℕ, zero, suc, ◌+◌, ◌-◌, ◌%◌, List, [], ◌∷◌, ◌++◌, length}
use Rattle.laws.specs.Choice.{when◌then◌else◌, ◌=?◌}
use Rattle.laws.specs.Bytes.{byte_at}
use Rattle.laws.specs.Digits.{low_first}
use Rattle.field.specs.Cells.{most_cells}
use Rattle.cmf.specs.Limits.{deepest_table, longest_password}
use Rattle.session.specs.Session.{level, closed}
use Rattle.session.specs.declared.session.Level.{Level}
use Rattle.session.specs.declared.session.Mode.{Mode}
use Rattle.session.specs.declared.session.Mode.TheVariants as mode
use Rattle.session.specs.declared.session.Session.{Session}
use Rattle.session_bytes.specs.Numbers.{number_at, numbers_bytes, numbers_from}

abbrev pub session_size : ℕ
session_size = 230

-- 01's tables are at most 8 deep, and one of them is shown
abbrev pub most_above : ℕ
most_above = deepest_table - 1

-- ---- to bytes

unfoldable pub level_bytes : Level → List ℕ
level_bytes l = low_first 8 l.table.0 ++ (l.cursor ∷ l.first ∷ [])

unfoldable pub levels_bytes : List Level → List ℕ
levels_bytes [] = []
levels_bytes (l ∷ ls) = level_bytes l ++ levels_bytes ls

unfoldable pub mode_bytes : Mode → List ℕ
mode_bytes mode.Browsing = 0 ∷ low_first 8 0
mode_bytes (mode.Visit p) = 1 ∷ low_first 8 p.0
mode_bytes (mode.Password n) = 2 ∷ low_first 8 n

-- the display's shape, the open tables, the idle count
unfoldable pub shown_bytes : Session → List ℕ
shown_bytes s =
    (s.columns ∷ s.lines ∷ s.outer ∷ [])
    ++ (levels_bytes s.above ++ (level_bytes s.here ++ (s.idle ∷ [])))

-- the mode, the working copy, the digits typed
unfoldable pub doing_bytes : Session → List ℕ
doing_bytes s =
    mode_bytes s.mode ++ ((s.work.at ∷ [])
    ++ (numbers_bytes 4 s.work.cells ++ numbers_bytes 1 s.typed))

unfoldable pub session_bytes : Session → List ℕ
session_bytes s = shown_bytes s ++ doing_bytes s

-- a session is written to bytes of its length; bytes of another length stay
unfoldable pub session_written : Session → List ℕ → List ℕ
session_written s bs = when length bs =? session_size then session_bytes s else bs

-- ---- from bytes

unfoldable pub level_from : ℕ → List ℕ → Level
level_from at bs = level (number_at 8 at bs) (byte_at bs (at + 8)) (byte_at bs (at + 9))

unfoldable pub levels_from : ℕ → ℕ → List ℕ → List Level
levels_from zero at bs = []
levels_from (suc n) at bs = level_from at bs ∷ levels_from n (at + 10) bs

-- a number that is no mode's is browsing; of a count of digits the lowest byte counts
unfoldable pub mode_by : ℕ → ℕ → Mode
mode_by tag x =
    when tag =? 1 then mode.Visit (record { 0 = x }) else when tag =? 2 then mode.Password (x % 256)
    else mode.Browsing

-- bytes of a session's length
unfoldable pub session_in : List ℕ → Session
session_in bs = record {
  columns = byte_at bs 0;
  lines = byte_at bs 1;
  outer = byte_at bs 2;
  above = levels_from most_above 3 bs;
  here = level_from 73 bs;
  idle = byte_at bs 83;
  mode = mode_by (byte_at bs 84) (number_at 8 85 bs);
  work = record { cells = numbers_from 4 most_cells 94 bs; at = byte_at bs 93 };
  typed = numbers_from 1 longest_password 222 bs;
}

-- bytes of another length are the closed session, which never fits
unfoldable pub session_from : List ℕ → Session
session_from bs = when length bs =? session_size then session_in bs else closed
