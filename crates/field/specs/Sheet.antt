-- A field's own bytes in the sheet (01, The four calls): written by Open, read where a visit begins and where
-- they are shown, written where a visit is finished.
use Rattle.std.specs.Prelude.{ℕ, List}
use Rattle.laws.specs.Parts.{part_at, put_at}
use Rattle.field.specs.Profiles.{profile_of}
use Rattle.field.specs.Values.{bytes_of, value_of}
use Rattle.field.specs.Cells.{started, finished}
use Rattle.field.specs.declared.record.Field.{Field}
use Rattle.field.specs.declared.work.Work.{Work}

-- how many bytes a field has in the sheet, and which
abbrev pub size_of : Field → ℕ
size_of f = (profile_of f.kind).bytes

abbrev pub own_bytes : Field → List ℕ → List ℕ
own_bytes f s = part_at f.sheet.0 (size_of f) s

-- 01, The four calls: Open writes each field's default
unfoldable pub default_written : Field → List ℕ → List ℕ
default_written f s = put_at f.sheet.0 (bytes_of f.default) s

-- a visit begins with a copy of the field's value, or of its default where that is out of range; a trigger
-- has none
unfoldable pub begun : Field → List ℕ → Work
begun f s = started f.kind (value_of (size_of f) (own_bytes f s)) f.default

-- 01, Keys: the sheet changes only when a visit is finished
unfoldable pub finished_in : Field → Work → List ℕ → List ℕ
finished_in f w s = put_at f.sheet.0 (bytes_of (finished f.kind w)) s
