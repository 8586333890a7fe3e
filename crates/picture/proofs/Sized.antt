-- The length of the array of cells, and that the display's shape is two bytes, from what owning a session tells.
use Prim.Native.Nat.{◌<◌}
use mathlib.Core.Path.{◌≡◌}
use mathlib.Core.List.{List}
use lib.ListN.{length}
use denote.Laws.{Is}
use denote.Struct.Declared.{row}
use mir.Val.{Val}
use Rattle.session.specs.declared.session.Session.{Session}
use Rattle.session.specs.contracts.session.Session.{the_type}

pub work_length : (s : Session) (vs : List Val) → Is (row the_type) s vs → length s.work.cells ≡ 32
work_length s vs g = g.1.1.1.1.1.0.1.1.0.1.0.1

pub columns_byte : (s : Session) (vs : List Val) → Is (row the_type) s vs → s.columns < 256
columns_byte s vs g = g.1.1.1.1.1.1.1.0.1

pub lines_byte : (s : Session) (vs : List Val) → Is (row the_type) s vs → s.lines < 256
lines_byte s vs g = g.1.1.1.1.1.1.1.1.0.1
