-- Nobody has to believe this file: what the check's functions hand on to each other of the index after its
-- last entry. `check` itself equates the whole array with `index_of`.
use Rattle.std.specs.Prelude.{ℕ, ◌*◌, ◌≤◌, ◌≡◌, List, get_or}

-- past its first k entries an array is zeros
pub record Clean (k : ℕ) (xs : List ℕ) : Type 0 where
  pub zeros : (i : ℕ) → 3 * k ≤ i → get_or xs i 0 ≡ 0

-- from an array with k entries to one with j: where the first was its entries and zeros, so is the second
abbrev pub StaysClean : ℕ → List ℕ → ℕ → List ℕ → Type 0
StaysClean k xs j ys = Clean k xs → Clean j ys
