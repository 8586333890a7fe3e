-- The edit cursor (01, Picture; R31 and R32).
use Rattle.std.specs.Prelude.{ℕ, ◌+◌, ◌-◌, ◌*◌, min, List, [], ◌∷◌, length, Option, None, Some}
use Rattle.laws.specs.Choice.{when◌then◌else◌, ◌=?◌}
use Rattle.field.specs.declared.kind.Kind.{Kind}
use Rattle.field.specs.declared.kind.Kind.TheVariants as kind
use Rattle.field.specs.declared.kind.Kind.TheVariants.{Integer, Counter, Time, Date, Switch, Trigger}
use Rattle.cmf.specs.Readers.{text_bytes, component_at}
use Rattle.cmf.specs.Places.{components_of}
use Rattle.cmf.specs.declared.component.Component.{Component}
use Rattle.session.specs.Fits.{cursor_line}
use Rattle.session.specs.declared.session.Mode.{Mode}
use Rattle.session.specs.declared.session.Mode.TheVariants as mode
use Rattle.session.specs.declared.session.Session.{Session}
use Rattle.texts.specs.Texts.{year_cells, width_of}
use Rattle.picture.specs.declared.cursor.EditCursor.{EditCursor}

-- the answer's numbers: none, or the row and the column, both from 0
unfoldable pub cursor_place : Option EditCursor → List ℕ
cursor_place None = []
cursor_place (Some c) = c.row ∷ c.column ∷ []

-- R32: the first cell of part i of a date whose year has so many digits
unfoldable pub date_part : ℕ → ℕ → ℕ
date_part year i = when i =? 0 then 0 else year + 1 + 3 * (i - 1)

-- which of its component's cells the cursor is on, where cell or part i is chosen
unfoldable pub cell_within : Kind → ℕ → ℕ
cell_within (Integer f) i = i
cell_within (Counter s) i = s.width - 1
cell_within (Time long) i = 3 * i
cell_within (Date long) i = date_part (year_cells long) i
cell_within (Switch n) i = i
cell_within (kind.Option n w) i = 0
cell_within Trigger i = 1

-- the cells of the component at a place
unfoldable pub width_at : List ℕ → ℕ → Component → ℕ
width_at im p c = when c.fielded then width_of c.field.kind else length (text_bytes im (p + 1))

-- the cells of the components before the one at a place
unfoldable pub cells_before : List ℕ → ℕ → List ℕ → ℕ
cells_before im place [] = 0
cells_before im place (p ∷ ps) = when p =? place then 0
    else width_at im p (component_at im p) + cells_before im place ps

-- R31: the data cell that the cursor is on, or the last that is shown
unfoldable pub data_cell : List ℕ → Session → ℕ → ℕ
data_cell im s p =
    min (s.columns - 3)
    (cells_before im p (components_of im (cursor_line im s.here)) + cell_within (component_at im p).field.kind
    s.work.at)

-- only a visit has one: on the row of the cursor line, and the data begins in column 1
unfoldable pub cursor_in : List ℕ → Session → Mode → List ℕ
cursor_in im s mode.Browsing = []
cursor_in im s (mode.Visit p) = (1 + s.here.cursor - s.here.first) ∷ (1 + data_cell im s p.0) ∷ []
cursor_in im s (mode.Password n) = []

abbrev pub edit_cursor : List ℕ → Session → List ℕ
edit_cursor im s = cursor_in im s s.mode
