-- The picture (01, Picture), row by row.
use Rattle.std.specs.Prelude.{ℕ, zero, suc, ◌+◌, ◌-◌, ◌*◌, ◌/◌, ◌%◌, Bool, false, List, [], ◌∷◌, ◌++◌}
use Rattle.std.specs.Prelude.{length, replicate}
use Rattle.laws.specs.Choice.{when◌then◌else◌, ◌=?◌, ◌<?◌, ◌≤?◌}
use Rattle.laws.specs.Bytes.{byte_at}
use Rattle.laws.specs.Overwrite.{fit}
use Rattle.cmf.specs.Readers.{text_bytes, head_at, component_at}
use Rattle.cmf.specs.Places.{components_of, line_at, line_count, first_editable}
use Rattle.cmf.specs.declared.head.Head.{Head}
use Rattle.cmf.specs.declared.component.Component.{Component}
use Rattle.field.specs.declared.kind.ImagePlace.{ImagePlace}
use Rattle.std.specs.Prelude.{Option}
use Rattle.std.specs.Prelude.{Some, None}
use Rattle.session.specs.Fits.{shape_fits, cursor_line, cursor_head}
use Rattle.laws.specs.Digits.{digit0}
use Rattle.session.specs.declared.session.Level.{Level}
use Rattle.session.specs.declared.session.Mode.{Mode}
use Rattle.session.specs.declared.session.Mode.TheVariants as mode
use Rattle.session.specs.declared.session.Session.{Session}
use Rattle.texts.specs.Texts.{blank, star, plus, colon, cells_text, field_text}

abbrev pub greater : ℕ
greater = 0x3e

abbrev pub exclamation : ℕ
exclamation = 0x21

abbrev pub dot : ℕ
dot = 0x2e

abbrev pub capital_p : ℕ
capital_p = 0x50

-- ---- row 0

-- whether ENTER would open a visit: where an editable component is found
abbrev pub mark_of : Option ImagePlace → ℕ
mark_of (Some p) = colon
mark_of None = star

-- on the cursor line
unfoldable pub edit_mark : List ℕ → Level → ℕ
edit_mark im l = mark_of (first_editable im (components_of im (cursor_line im l)))

-- a line's number, at most 99, right aligned in two cells
unfoldable pub line_number : ℕ → List ℕ
line_number n = (when n <? 10 then blank else digit0 + n / 10) ∷ (digit0 + n % 10) ∷ []

-- whether the table has more lines than rows, and then whether the cursor has reached the last
unfoldable pub more_mark : ℕ → ℕ → ℕ → ℕ
more_mark count rows cursor = when count ≤? rows then blank else when cursor + 1 =? count then exclamation
    else plus

-- the title in all but four columns, then the marks with the number between them
unfoldable pub title_row : List ℕ → Session → List ℕ
title_row im s =
    fit blank (s.columns - 4) (text_bytes im s.here.table.0)
    ++ (edit_mark im s.here
    ∷ (line_number (s.here.cursor + 1)
    ++ (more_mark (line_count im s.here.table.0) (s.lines - 1) s.here.cursor ∷ [])))

-- how many digits the password of the cursor line has
abbrev pub password_length : List ℕ → Level → ℕ
password_length im l = byte_at im (cursor_head im l).password.0

-- 'Pwd:'
abbrev pub prompt : List ℕ
prompt = capital_p ∷ 0x77 ∷ 0x64 ∷ colon ∷ []

-- with n digits typed: a star for each of them, a dot for each that is missing
unfoldable pub password_row : List ℕ → Session → ℕ → List ℕ
password_row im s n =
    fit blank s.columns (prompt ++ (replicate n star ++ replicate (password_length im s.here - n) dot))

unfoldable pub top_row_in : List ℕ → Session → Mode → List ℕ
top_row_in im s mode.Browsing = title_row im s
top_row_in im s (mode.Visit p) = title_row im s
top_row_in im s (mode.Password n) = password_row im s n

abbrev pub top_row : List ℕ → Session → List ℕ
top_row im s = top_row_in im s s.mode

-- ---- the other rows

-- a visit of the component at a place is open
unfoldable pub visiting : Mode → ℕ → Bool
visiting mode.Browsing p = false
visiting (mode.Visit q) p = q.0 =? p
visiting (mode.Password n) p = false

-- 01, Picture: the component of an open visit shows the working copy, any other field the sheet; R33: a
-- string shows its bytes as they are
unfoldable pub component_text : List ℕ → List ℕ → Session → ℕ → Component → List ℕ
component_text im sheet s p c =
    when c.fielded then
    (when visiting s.mode p then cells_text im p c.field.kind s.work.cells
    else field_text im sheet p c.field)
    else text_bytes im (p + 1)

-- what the components show, one after the other
unfoldable pub data_text : List ℕ → List ℕ → Session → List ℕ → List ℕ
data_text im sheet s [] = []
data_text im sheet s (p ∷ ps) = component_text im sheet s p (component_at im p) ++ data_text im sheet s ps

-- where the line leads: to a protected submenu, to another, or nowhere
unfoldable pub submenu_mark : Head → ℕ
submenu_mark h = when h.protected then capital_p else when h.submenu then greater else blank

-- line k, from 0, which is at p: the cursor's mark, the data in all but two columns, and where it leads
unfoldable pub line_row : List ℕ → List ℕ → Session → ℕ → ℕ → List ℕ
line_row im sheet s k p =
    (when k =? s.here.cursor then greater else blank)
    ∷ (fit blank (s.columns - 2) (data_text im sheet s (components_of im p))
    ++ (submenu_mark (head_at im p) ∷ []))

-- R10: every line has its row, whatever its enable byte; R30: of a table of so many lines a row past the last
-- is blank
unfoldable pub row_at : List ℕ → List ℕ → Session → ℕ → ℕ → ℕ → List ℕ
row_at im sheet s count k p = when k <? count then line_row im sheet s k p else fit blank s.columns []

-- n rows from line k on, which is at p; past the last line p has no meaning and is not read
unfoldable pub rows_from : List ℕ → List ℕ → Session → ℕ → ℕ → ℕ → ℕ → List ℕ
rows_from im sheet s count zero k p = []
rows_from im sheet s count (suc n) k p = row_at im sheet s count k p
    ++ rows_from im sheet s count n (k + 1) (head_at im p).next.0

-- the lines - 1 rows below row 0, from the first shown line on
unfoldable pub rows_below : List ℕ → List ℕ → Session → List ℕ
rows_below im sheet s =
    rows_from im sheet s (line_count im s.here.table.0) (s.lines - 1) s.here.first
    (line_at im s.here.table.0 s.here.first)

-- row after row, each from the left
unfoldable pub picture_of : List ℕ → List ℕ → Session → List ℕ
picture_of im sheet s = top_row im s ++ rows_below im sheet s

-- bytes into which the picture is written: they stay as they are where no display has the session's shape, or
-- where they are not as many as it has cells
unfoldable pub filled : List ℕ → List ℕ → Session → List ℕ → List ℕ
filled im sheet s d =
    when shape_fits s.columns s.lines
    then (when length d =? s.columns * s.lines then picture_of im sheet s else d) else d
