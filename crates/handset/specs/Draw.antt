-- 01, The four calls: Draw. It does not write the sheet.
use Rattle.std.specs.Prelude.{ℕ, ◌*◌, List, [], length, Option, None, Result, Ok, Err}
use Rattle.laws.specs.Choice.{when◌then◌else◌, ◌=?◌}
use Rattle.session.specs.declared.session.Session.{Session}
use Rattle.cmf.specs.declared.refusal.Refusal.{Refusal}
use Rattle.picture.specs.declared.cursor.EditCursor.{EditCursor}
use Rattle.picture.specs.Rows.{picture_of}
use Rattle.picture.specs.Cursor.{edit_cursor}
use Rattle.handset.specs.Refusals.{◌before◌, ◌unless◌, session_refusal}

-- 01, Refusal numbers: 2 to 12, and 1 last; n is the picture's length
unfoldable pub draw_refusal : List ℕ → ℕ → Session → ℕ → ℕ
draw_refusal im extent s n = session_refusal im extent s before (1 unless (n =? s.columns * s.lines))

-- the edit cursor that a Draw answers, or none; a refused Draw answers none
abbrev pub cursor_in : Result (Option EditCursor) Refusal → Option EditCursor
cursor_in (Ok c) = c
cursor_in (Err r) = None

-- its row and column
unfoldable pub draw_cursor : List ℕ → ℕ → Session → ℕ → List ℕ
draw_cursor im extent s n = when draw_refusal im extent s n =? 0 then edit_cursor im s else []

-- the picture after Draw: a refused Draw alters no byte
unfoldable pub drawn_picture : List ℕ → List ℕ → Session → List ℕ → List ℕ
drawn_picture im sheet s picture =
    when draw_refusal im (length sheet) s (length picture) =? 0 then picture_of im sheet s else picture
