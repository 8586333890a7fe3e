-- Numbers in bytes, low byte first: `low_first` of laws writes one, and here it is read back, one number or
-- several.
use Rattle.std.specs.Prelude.{ℕ, zero, suc, ◌+◌, ◌*◌, List, [], ◌∷◌, ◌++◌}
use Rattle.laws.specs.Bytes.{byte_at}
use Rattle.laws.specs.Digits.{low_first}

-- the number of so many bytes at a place
unfoldable pub number_at : ℕ → ℕ → List ℕ → ℕ
number_at zero at bs = 0
number_at (suc n) at bs = byte_at bs at + 256 * number_at n (at + 1) bs

-- numbers of w bytes each, one after the other
unfoldable pub numbers_bytes : ℕ → List ℕ → List ℕ
numbers_bytes w [] = []
numbers_bytes w (x ∷ xs) = low_first w x ++ numbers_bytes w xs

-- so many numbers of w bytes each from a place on
unfoldable pub numbers_from : ℕ → ℕ → ℕ → List ℕ → List ℕ
numbers_from w zero at bs = []
numbers_from w (suc n) at bs = number_at w at bs ∷ numbers_from w n (at + w) bs
