-- Bytes of a list at a place, whatever the place: 0 past the end.
use Rattle.std.specs.Prelude.{ℕ, ◌+◌, ◌-◌, ◌*◌, Bool, false, List, get_or}
use Rattle.laws.specs.Choice.{when◌then◌else◌, ◌≤?◌}

-- the byte at a place
abbrev pub byte_at : List ℕ → ℕ → ℕ
byte_at s at = get_or s at 0

-- the two bytes at a place as a number, low byte first
unfoldable pub word_at : List ℕ → ℕ → ℕ
word_at s at = byte_at s at + 256 * byte_at s (at + 1)

-- whether a list of so many has n bytes from a place on
unfoldable pub room : ℕ → ℕ → ℕ → Bool
room len at n = when at ≤? len then n ≤? (len - at) else false
