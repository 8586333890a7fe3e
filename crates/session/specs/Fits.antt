-- 01, A session fits when: one definition for each clause, in the paper's order; the idle count needs none,
-- since it is a byte. Nothing more is asked.
use Rattle.std.specs.Prelude.{ℕ, zero, suc, ◌+◌, ◌-◌, Bool, true, List, [], ◌∷◌, get_or, take}
use Rattle.laws.specs.Choice.{when◌then◌else◌, ◌and◌, ◌=?◌, ◌<?◌, ◌≤?◌}
use Rattle.laws.specs.Bytes.{byte_at}
use Rattle.field.specs.Profiles.{profile_of}
use Rattle.field.specs.Cells.{legal}
use Rattle.field.specs.declared.kind.Kind.{Kind}
use Rattle.field.specs.declared.work.Work.{Work}
use Rattle.cmf.specs.Limits.{prolog_bytes, deepest_table}
use Rattle.cmf.specs.Readers.{head_at, component_at}
use Rattle.cmf.specs.Places.{components_of, line_at, line_count, is_in}
use Rattle.cmf.specs.declared.head.Head.{Head}
use Rattle.session.specs.Events.{last_digit_key}
use Rattle.session.specs.declared.session.Level.{Level}
use Rattle.session.specs.declared.session.Mode.{Mode}
use Rattle.session.specs.declared.session.Mode.TheVariants as mode
use Rattle.session.specs.declared.session.Session.{Session}

-- 01, row 1: a display has 14 to 20 columns and 2 to 4 lines
abbrev pub least_columns : ℕ
least_columns = 14

abbrev pub most_columns : ℕ
most_columns = 20

abbrev pub least_display_lines : ℕ
least_display_lines = 2

abbrev pub most_display_lines : ℕ
most_display_lines = 4

unfoldable pub shape_fits : ℕ → ℕ → Bool
shape_fits columns lines =
    ((least_columns ≤? columns) and (columns ≤? most_columns))
    and ((least_display_lines ≤? lines) and (lines ≤? most_display_lines))

-- the place of a level's cursor line, and that line's head
abbrev pub cursor_line : List ℕ → Level → ℕ
cursor_line im l = line_at im l.table.0 l.cursor

unfoldable pub cursor_head : List ℕ → Level → Head
cursor_head im l = head_at im (cursor_line im l)

-- a level shows the table at t: its cursor line exists, and so does the first shown line, the cursor being
-- within the lines - 1 shown
unfoldable pub level_fits : List ℕ → ℕ → ℕ → Level → Bool
level_fits im lines t l =
    (l.table.0 =? t)
    and ((l.cursor <? line_count im t) and
    ((l.first ≤? l.cursor) and (l.cursor <? l.first + (lines - 1))))

-- from the table at t on each next level's table is the submenu of the cursor line before it
unfoldable pub levels_fit : List ℕ → ℕ → ℕ → List Level → Level → Bool
levels_fit im lines t [] here = level_fits im lines t here
levels_fit im lines t (l ∷ ls) here =
    level_fits im lines t l and ((cursor_head im l).submenu
    and levels_fit im lines (cursor_head im l).table.0 ls here)

-- 1 to 8 tables that begin with the top table
unfoldable pub tables_fit : List ℕ → Session → Bool
tables_fit im s = (s.outer <? deepest_table)
    and levels_fit im s.lines prolog_bytes (take s.outer s.above) s.here

-- the working copy of a visit has a chosen cell or part of the field, and cells that are legal with it; a
-- trigger has no value, so nothing is asked of its cells
unfoldable pub work_fits : Kind → Work → Bool
work_fits k w = (w.at <? (profile_of k).cells) and (when (profile_of k).fires then true else legal k w)

-- an open visit, with working copy w, is of an editable field or trigger on the cursor line; `line` is where
-- that line is, here and below
unfoldable pub visit_fits : List ℕ → ℕ → Work → ℕ → Bool
visit_fits im line w p =
    is_in p (components_of im line)
    and ((component_at im p).fielded and ((component_at im p).editable
    and work_fits (component_at im p).field.kind w))

-- the first n numbers are digits
unfoldable pub digits_to : List ℕ → ℕ → Bool
digits_to ds zero = true
digits_to ds (suc n) = digits_to ds n and (get_or ds n 0 ≤? last_digit_key)

-- an entry is open only where the cursor line's submenu is protected; fewer keys are typed than its password
-- has digits, and each is a digit
unfoldable pub entry_fits : List ℕ → ℕ → List ℕ → ℕ → Bool
entry_fits im line typed n =
    (head_at im line).protected and ((n <? byte_at im (head_at im line).password.0) and digits_to typed n)

-- browsing asks nothing more; a visit and a password entry ask their own clause
unfoldable pub mode_fits : List ℕ → Session → Mode → Bool
mode_fits im s mode.Browsing = true
mode_fits im s (mode.Visit p) = visit_fits im (cursor_line im s.here) s.work p.0
mode_fits im s (mode.Password n) = entry_fits im (cursor_line im s.here) s.typed n

-- 01: shape, tables, idle count, mode; the idle count is a byte and so at most 255
unfoldable pub session_fits : List ℕ → Session → Bool
session_fits im s = shape_fits s.columns s.lines and (tables_fit im s and mode_fits im s s.mode)
