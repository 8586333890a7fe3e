-- Nobody has to believe this file: what the walk over an image's fields hands on. Open's contract equates the
-- sheet with `Open.open_sheet`, and that of `list_fields` the whole list with the fields' places.
use Rattle.std.specs.Prelude.{ℕ, ◌+◌, List, [], ◌∷◌, length, set}
use Rattle.laws.specs.Choice.{when◌then◌else◌, ◌<?◌}
use Rattle.field.specs.Sheet.{default_written}
use Rattle.field.specs.declared.record.Field.{Field}

-- a sheet, and a list of places with the first count of them set
pub record Gathered : Type 0 where
  pub sheet : List ℕ
  pub count : ℕ
  pub places : List ℕ

abbrev pub gathered : List ℕ → ℕ → List ℕ → Gathered
gathered s k ps = record { sheet = s; count = k; places = ps }

-- a field: its default is written, and its place is the list's next, as long as there is room
unfoldable pub take_one : Field → Gathered → Gathered
take_one f t = gathered (default_written f t.sheet)
    (when t.count <? length t.places then t.count + 1 else t.count)
    (when t.count <? length t.places then set t.places t.count f.image.0 else t.places)

-- fields one after another
unfoldable pub take_all : List Field → Gathered → Gathered
take_all [] t = t
take_all (f ∷ fs) t = take_all fs (take_one f t)
