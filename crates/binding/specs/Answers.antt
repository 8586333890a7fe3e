-- The answers as numbers.
use Rattle.std.specs.Prelude.{ℕ, ◌+◌, ◌*◌, List, [], ◌∷◌}
use Rattle.laws.specs.Choice.{when◌then◌else◌, ◌=?◌}
use Rattle.session.specs.Answers.{refused_from}

-- a refusal's number with 16,777,216 added, as in an answer; 0 where nothing is refused
unfoldable pub refused_by : ℕ → ℕ
refused_by k = when k =? 0 then 0 else refused_from + k

-- an edit cursor's number counts from here
abbrev pub cursor_from : ℕ
cursor_from = 65536

-- 65,536 + 256 * row + column; 0 for no edit cursor
unfoldable pub cursor_number : List ℕ → ℕ
cursor_number [] = 0
cursor_number (row ∷ []) = 0
cursor_number (row ∷ column ∷ rest) = cursor_from + 256 * row + column
