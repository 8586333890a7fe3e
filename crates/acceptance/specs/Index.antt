-- The reached fields in an array of numbers, three to a field, as a list of entries in the order of the walk.
use Rattle.std.specs.Prelude.{ℕ, zero, suc, ◌+◌, ◌*◌, ◌/◌, List, [], ◌∷◌, ◌++◌, map, length, get_or, set}
use Rattle.laws.specs.Choice.{when◌then◌else◌, ◌<?◌}
use Rattle.laws.specs.Overwrite.{fit}
use Rattle.cmf.specs.Limits.{most_fields}
use Rattle.acceptance.specs.Check.{State, state}
use Rattle.acceptance.specs.declared.index.Entry.{Entry}
use Rattle.acceptance.specs.declared.progress.Progress.{Progress}

abbrev pub entry : ℕ → ℕ → ℕ → Entry
entry p f n = record { place = record { 0 = p }; from = record { 0 = f }; size = n }

-- how many entries an array has room for
abbrev pub capacity : List ℕ → ℕ
capacity xs = length xs / 3

-- the k-th entry; zeros past the capacity
unfoldable pub entry_at : List ℕ → ℕ → Entry
entry_at xs k = when k <? capacity xs then entry (get_or xs (3 * k) 0) (get_or xs (3 * k + 1) 0)
    (get_or xs (3 * k + 2) 0) else entry 0 0 0

-- the first k entries
unfoldable pub listed : List ℕ → ℕ → List Entry
listed xs zero = []
listed xs (suc k) = listed xs k ++ (entry_at xs k ∷ [])

-- and their image places
abbrev pub places_in : List ℕ → ℕ → List ℕ
places_in xs k = map (λ (e : Entry). e.place.0) (listed xs k)

-- the array with its k-th entry set; as it was past the capacity
unfoldable pub with_entry : List ℕ → ℕ → Entry → List ℕ
with_entry xs k e =
    when k <? capacity xs then set (set (set xs (3 * k) e.place.0) (3 * k + 1) e.from.0) (3 * k + 2)
    e.size else xs

-- the walk's state as the code has it
abbrev pub seen : Progress → List ℕ → State
seen w xs = state w (listed xs w.fields)

-- the numbers of entries, one entry after another
unfoldable pub numbers_of : List Entry → List ℕ
numbers_of [] = []
numbers_of (e ∷ es) = e.place.0 ∷ e.from.0 ∷ e.size ∷ numbers_of es

-- the whole array: the numbers of the reached fields, and zeros for as many more as there may be
unfoldable pub index_of : List Entry → List ℕ
index_of es = fit 0 (3 * most_fields) (numbers_of es)
