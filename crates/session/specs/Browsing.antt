-- 01, Keys, browsing: one definition a key.
use Rattle.std.specs.Prelude.{ℕ, ◌+◌, ◌-◌, List, get_or, set}
use Rattle.laws.specs.Choice.{when◌then◌else◌, ◌=?◌, ◌<?◌}
use Rattle.field.specs.Sheet.{begun}
use Rattle.field.specs.declared.kind.ImagePlace.{ImagePlace}
use Rattle.cmf.specs.Limits.{deepest_table}
use Rattle.cmf.specs.Readers.{component_at}
use Rattle.cmf.specs.Places.{components_of, line_count, first_editable}
use Rattle.std.specs.Prelude.{Option}
use Rattle.std.specs.Prelude.{Some, None}
use Rattle.session.specs.Session.{level, no_level}
use Rattle.session.specs.Fits.{cursor_line, cursor_head}
use Rattle.session.specs.Answers.{taken, flash, with_idle, showing, with_here, in_visit, in_entry}
use Rattle.session.specs.Seconds.{browse_second}
use Rattle.session.specs.Events.{up, down, left, right, enter, second}
use Rattle.session.specs.declared.session.Session.{Session}
use Rattle.session.specs.declared.answer.Stepped.{Stepped}

-- ---- the cursor line

-- R23: the first shown line moves only as far as the cursor's new line asks; `rows` lines are shown
unfoldable pub first_for : ℕ → ℕ → ℕ → ℕ
first_for rows cursor first =
    when cursor <? first then cursor else when cursor <? first + rows then first else cursor + 1 - rows

-- the shown table with its cursor on another line
abbrev pub cursor_on : Session → ℕ → Session
cursor_on s c = with_here s (level s.here.table.0 c (first_for (s.lines - 1) c s.here.first))

-- UP and DOWN go to the line before or after, whatever its enable byte (R10), and flash where there is none
unfoldable pub up_step : Session → Stepped
up_step s = when s.here.cursor =? 0 then flash s else taken (cursor_on s (s.here.cursor - 1))

unfoldable pub down_step : List ℕ → Session → Stepped
down_step im s =
    when s.here.cursor + 1 <? line_count im s.here.table.0 then taken (cursor_on s (s.here.cursor + 1))
    else flash s

-- ---- tables

-- R22: LEFT shows the table above as it was left, and flashes at the top
unfoldable pub left_step : Session → Stepped
left_step s =
    when s.outer =? 0 then flash s else taken
    (showing s (s.outer - 1) s.above (get_or s.above (s.outer - 1) no_level))

-- a submenu is shown at its first line; an accepted image has none below the eighth table
unfoldable pub descended : Session → ℕ → Stepped
descended s t =
    when s.outer + 1 <? deepest_table then taken
    (showing s (s.outer + 1) (set s.above s.outer s.here) (level t 0 0)) else flash s

-- RIGHT enters a submenu; R24: on a protected line it begins an entry, with no digit typed
unfoldable pub right_step : List ℕ → Session → Stepped
right_step im s =
    when (cursor_head im s.here).submenu then
    (when (cursor_head im s.here).protected then taken (in_entry s 0 s.typed)
    else descended s (cursor_head im s.here).table.0)
    else flash s

-- ---- visits

-- a visit begins with a copy of the field's value, or of its default where that is out of range
abbrev pub visit_at : List ℕ → List ℕ → Session → ImagePlace → Session
visit_at im sheet s p = in_visit s p (begun (component_at im p.0).field sheet)

-- ENTER opens a visit to the first editable component of the cursor line, and flashes where there is none
unfoldable pub enter_at : List ℕ → List ℕ → Session → Option ImagePlace → Stepped
enter_at im sheet s (Some p) = taken (visit_at im sheet s p)
enter_at im sheet s None = flash s

unfoldable pub enter_step : List ℕ → List ℕ → Session → Stepped
enter_step im sheet s = enter_at im sheet s (first_editable im (components_of im (cursor_line im s.here)))

-- ---- every event

-- a digit and POINT flash
unfoldable pub browse_step : List ℕ → List ℕ → Session → ℕ → Stepped
browse_step im sheet s e =
    when e =? up then up_step (with_idle s 0)
    else when e =? down then down_step im (with_idle s 0)
    else when e =? left then left_step (with_idle s 0)
    else when e =? right then right_step im (with_idle s 0)
    else when e =? enter then enter_step im sheet (with_idle s 0)
    else when e =? second then browse_second im s
    else flash (with_idle s 0)
