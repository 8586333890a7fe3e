-- Nobody has to believe this file: it serves the functions that write a row, and a picture is equated with
-- its rows. The cells of a row while they are written: texts are put one after the other, and what does not
-- fit is dropped.
use Rattle.std.specs.Prelude.{ℕ, ◌+◌, min, ◌≡◌, List, length}
use Rattle.laws.specs.Overwrite.{over}

-- a text is put into a row from a place on, and ends at `end`: after its last cell, or where the row ends
pub record Put (before : List ℕ) (at : ℕ) (text after : List ℕ) (end : ℕ) : Type 0 where
  pub is : after ≡ over before at text
  pub ends : end ≡ min (length before) (at + length text)
