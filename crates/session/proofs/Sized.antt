-- The length of the array of levels, from what owning a session tells.
use mathlib.Core.Path.{◌≡◌}
use mathlib.Core.List.{List}
use lib.ListN.{length}
use denote.Laws.{Is}
use denote.Struct.Declared.{row}
use mir.Val.{Val}
use Rattle.session.specs.declared.session.Session.{Session}
use Rattle.session.specs.contracts.session.Session.{the_type}

pub above_length : (s : Session) (vs : List Val) → Is (row the_type) s vs → length s.above ≡ 7
above_length s vs g = g.1.1.0.1.0.1
