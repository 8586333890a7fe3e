-- The way through an image: the lines of a table, the components of a line and all components that a walk
-- reaches, as lists of their places.
use Rattle.std.specs.Prelude.{ℕ, zero, suc, ◌+◌, List, [], ◌∷◌, ◌++◌, map, Bool, true, false, length}
use Rattle.laws.specs.Choice.{when◌then◌else◌, ◌=?◌, ◌<?◌}
use Rattle.field.specs.declared.record.Field.{Field}
use Rattle.cmf.specs.Limits.{most_lines_of_table, deepest_table, prolog_bytes}
use Rattle.cmf.specs.Readers.{title_at, head_at, component_at}
use Rattle.cmf.specs.declared.component.Component.{Component}
use Rattle.field.specs.declared.kind.ImagePlace.{ImagePlace}
use Rattle.std.specs.Prelude.{Option}
use Rattle.std.specs.Prelude.{Some, None}

-- the lines from one on to the last of the table, at most k
unfoldable pub lines_from : List ℕ → ℕ → ℕ → List ℕ
lines_from im zero p = []
lines_from im (suc k) p = p ∷ (when (head_at im p).last then [] else lines_from im k (head_at im p).next.0)

-- the lines of a table; one more than there may be is looked for
unfoldable pub lines_of : List ℕ → ℕ → List ℕ
lines_of im t = lines_from im (most_lines_of_table + 1) (title_at im t).line.0

-- the components from one on to the last of the line, at most k
unfoldable pub components_from : List ℕ → ℕ → ℕ → List ℕ
components_from im zero c = []
components_from im (suc k) c =
    c ∷ (when (component_at im c).last then [] else components_from im k (component_at im c).next.0)

-- the components from one on to the last of its line; each takes a byte at least, so that one more than the
-- image has bytes is enough
abbrev pub rest_of_line : List ℕ → ℕ → List ℕ
rest_of_line im c = components_from im (length im + 1) c

-- the components of a line
unfoldable pub components_of : List ℕ → ℕ → List ℕ
components_of im p = rest_of_line im (head_at im p).component.0

-- the line k lines further on, and line k of a table, from 0; without meaning past the table's last line
unfoldable pub line_from : List ℕ → ℕ → ℕ → ℕ
line_from im zero p = p
line_from im (suc k) p = line_from im k (head_at im p).next.0

unfoldable pub line_at : List ℕ → ℕ → ℕ → ℕ
line_at im t k = line_from im k (title_at im t).line.0

-- how many lines a table has
unfoldable pub line_count : List ℕ → ℕ → ℕ
line_count im t = length (lines_of im t)

-- ---- what is looked for

-- a place that is found if a test passes
abbrev pub found_if : Bool → ℕ → Option ImagePlace
found_if t p = when t then Some (record { 0 = p }) else None

-- line k of a table, from 0, if it has more than k
abbrev pub line_found : List ℕ → ℕ → ℕ → Option ImagePlace
line_found im t k = found_if (k <? line_count im t) (line_at im t k)

-- the first editable one of some components
unfoldable pub first_editable : List ℕ → List ℕ → Option ImagePlace
first_editable im [] = None
first_editable im (p ∷ ps) = when (component_at im p).editable then Some (record { 0 = p })
    else first_editable im ps

-- the editable component that follows one on its line; none follows the last
unfoldable pub next_editable : List ℕ → ℕ → Option ImagePlace
next_editable im p =
    when (component_at im p).last then None
    else first_editable im (rest_of_line im (component_at im p).next.0)

-- a place is one of a list
unfoldable pub is_in : ℕ → List ℕ → Bool
is_in p [] = false
is_in p (q ∷ qs) = when q =? p then true else is_in p qs

-- the field of a component that is one
abbrev pub held_by : Component → List Field
held_by c = when c.fielded then c.field ∷ [] else []

-- ---- the walk of 01, Refusal numbers: from line to line, at each its components and then its submenu

module _ (im : List ℕ) where
  module _ (submenu : ℕ → List ℕ) where
    -- the components that are reached at a line: its own, then those of its submenu
    unfoldable pub line_reach : ℕ → List ℕ
    line_reach p = components_of im p ++ (when (head_at im p).submenu then submenu (head_at im p).table.0
        else [])

    -- at lines, one after another
    unfoldable pub lines_reach : List ℕ → List ℕ
    lines_reach [] = []
    lines_reach (p ∷ ps) = line_reach p ++ lines_reach ps

  -- from a table on; so many levels are left, its own among them
  unfoldable pub table_reach : ℕ → ℕ → List ℕ
  table_reach zero t = []
  table_reach (suc left) t = lines_reach (table_reach left) (lines_of im t)

  -- from the top table on
  unfoldable pub component_places : List ℕ
  component_places = table_reach deepest_table prolog_bytes

  -- the fields among the components at these places, in their order
  unfoldable pub fields_among : List ℕ → List Field
  fields_among [] = []
  fields_among (c ∷ cs) = held_by (component_at im c) ++ fields_among cs

  -- 01, Refusal numbers: the fields of an image, each as often as it is reached
  unfoldable pub fields_of : List Field
  fields_of = fields_among component_places

  -- and where each of them is
  abbrev pub field_places : List ℕ
  field_places = map (λ (f : Field). f.image.0) fields_of
