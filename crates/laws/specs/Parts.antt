-- A part of a list, and a list with a part written.
use Rattle.std.specs.Prelude.{ℕ, ◌+◌, List, ◌++◌, length, take, drop}
use Rattle.laws.specs.Choice.{when◌then◌else◌, ◌≤?◌}

-- the n elements from a place
abbrev pub part_at : ℕ → ℕ → List ℕ → List ℕ
part_at at n s = take n (drop at s)

-- s with b written from a place; as it was where b does not fit
unfoldable pub put_at : ℕ → List ℕ → List ℕ → List ℕ
put_at at b s = when (at + length b) ≤? length s then take at s ++ (b ++ drop (at + length b) s) else s
