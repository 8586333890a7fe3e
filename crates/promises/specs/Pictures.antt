-- What holds of every Draw, whatever image, sheet, session and picture are: theorems over the definitions
-- that its contract cites.
use Rattle.std.specs.Prelude.{ℕ, ◌+◌, ◌-◌, ◌≤◌, ◌<◌, ◌≡◌, true, false, length, None, Some}
use mathlib.Core.List.{List, Memᴰ}
use Rattle.field.specs.Sheet.{own_bytes}
use Rattle.field.specs.declared.kind.ImagePlace.{ImagePlace}
use Rattle.cmf.specs.Readers.{component_at}
use Rattle.cmf.specs.Places.{components_of, line_at, line_count}
use Rattle.session.specs.declared.session.Mode.TheVariants as mode
use Rattle.session.specs.declared.session.Session.{Session}
use Rattle.picture.specs.Rows.{visiting}
use Rattle.picture.specs.Cursor.{cursor_place}
use Rattle.handset.specs.Draw.{draw_refusal, draw_cursor, drawn_picture}

-- the component at p is on a line that is shown: one of the lines - 1 from the first shown line on, as far as
-- the table has them
pub record OnShownLine (im : List ℕ) (s : Session) (p : ℕ) : Type 0 where
  pub line : ℕ
  pub from : s.here.first ≤ line
  pub to : line < s.here.first + (s.lines - 1)
  pub exists : line < line_count im s.here.table.0
  pub on : Memᴰ p (components_of im (line_at im s.here.table.0 line))

-- two sheets of one length agree in the own bytes of each field on a shown line; nothing is asked of the
-- visited one, which shows its working copy
pub record AgreeWhereShown (im : List ℕ) (s : Session) (a b : List ℕ) : Type 0 where
  pub same_length : length a ≡ length b
  pub bytes : (p : ℕ) → OnShownLine im s p → (component_at im p).fielded ≡ true → visiting s.mode p ≡ false
      → own_bytes (component_at im p).field a ≡ own_bytes (component_at im p).field b

-- 01, Picture: a data cell, in a row below row 0 and between the mark at the left and the one at the right
pub record DataCell (s : Session) (row column : ℕ) : Type 0 where
  pub below_title : 1 ≤ row
  pub last_row : row < s.lines
  pub right_of_mark : 1 ≤ column
  pub left_of_mark : column + 1 < s.columns

-- every clause is a theorem
pub record DrawPromises (im sheet : List ℕ) (s : Session) (picture : List ℕ) : Type 0 where
  -- the edit cursor lies inside the picture, on a data cell
  pub cursor_inside : (row column : ℕ)
      → draw_cursor im (length sheet) s (length picture)
      ≡ cursor_place (Some (record { row = row; column = column }))
      → DataCell s row column
  -- a visit has one
  pub cursor_there : draw_refusal im (length sheet) s (length picture) ≡ 0
      → (p : ImagePlace) → s.mode ≡ mode.Visit p
      → draw_cursor im (length sheet) s (length picture) ≡ cursor_place None → ⊥
  -- and nothing else has
  pub cursor_only : ((p : ImagePlace) → s.mode ≡ mode.Visit p → ⊥)
      → draw_cursor im (length sheet) s (length picture) ≡ cursor_place None
  -- the picture depends on no byte of the sheet but those of fields on shown lines
  pub shows : (other : List ℕ) → AgreeWhereShown im s sheet other
      → drawn_picture im sheet s picture ≡ drawn_picture im other s picture
  -- and has as many bytes as it had
  pub picture_length : length (drawn_picture im sheet s picture) ≡ length picture
