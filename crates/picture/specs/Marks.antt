-- Nobody has to believe this file: it serves the functions that write a picture, which is equated with its
-- rows. What the rows of lines tell of row 0.
use Rattle.std.specs.Prelude.{ℕ, ◌-◌, ◌≡◌, Bool, Option, None, Some, List}
use Rattle.laws.specs.Choice.{when◌then◌else◌}
use Rattle.cmf.specs.Places.{line_count}
use Rattle.session.specs.Fits.{cursor_line}
use Rattle.session.specs.declared.session.Session.{Session}
use Rattle.texts.specs.Texts.{star, colon}
use Rattle.picture.specs.Rows.{edit_mark, more_mark}
use Rattle.picture.specs.declared.title.Known.{Known}

-- a mark, where there is one, is the one that is meant
abbrev pub Tells : Option ℕ → ℕ → Type 0
Tells None x = Unit {0}
Tells (Some m) x = m ≡ x

-- the mark by one component more, which is the last of its line or not
abbrev pub mark_by : Option ℕ → Bool → Bool → Option ℕ
mark_by (Some m) editable last = Some m
mark_by None editable last = when editable then Some colon else when last then Some star else None

-- what is known of the shown table is enough for row 0
pub record Enough (im : List ℕ) (s : Session) (k : Known) : Type 0 where
  pub more : more_mark k.count (s.lines - 1) s.here.cursor
      ≡ more_mark (line_count im s.here.table.0) (s.lines - 1) s.here.cursor
  pub line : k.place.0 ≡ cursor_line im s.here
  pub mark : Tells k.mark (edit_mark im s.here)
